-- Cases made by the model in tests/src/model and written by tests/tests/vectors.rs. Do not edit.
use Rattle.std.specs.Prelude.{false, true, List, [], ◌∷◌}
use Rattle.model.specs.declared.Side.TheVariants.{Cell as further, Slot as slot}
use Rattle.model.specs.declared.Trie.{Trie}
use Rattle.vectors.specs.Vectors.{Case, Parts, agrees, arranged, blanks, byte, cell, checks, creates, grows, inside, legal, lists, looks_up, ordered, puts, rebuilds, recovers, removes, splits, text, trie, zeros}

abbrev pub file0 : Parts
file0 =
    text "TKF" ∷ byte 0x03 ∷ byte 0x00 ∷ byte 0x02 ∷ byte 0x03 ∷ zeros 9
    ∷ byte 0x01 ∷ byte 0x01 ∷ byte 0x02 ∷ zeros 5 ∷ text "aa" ∷ zeros 54 ∷ text "abba" ∷ blanks 20 ∷ byte 0xDB
    ∷ text ":-SJ" ∷ byte 0x19 ∷ text "Jg" ∷ byte 0x03 ∷ zeros 47
    ∷ byte 0x01 ∷ byte 0x01 ∷ byte 0x03 ∷ byte 0x02 ∷ zeros 4 ∷ text "aaa" ∷ zeros 21 ∷ text "aa" ∷ zeros 30
    ∷ text "aab" ∷ blanks 21 ∷ byte 0xBF ∷ byte 0x88 ∷ byte 0x06 ∷ byte 0x86 ∷ text "," ∷ byte 0xF1 ∷ text "y"
    ∷ byte 0x0A ∷ byte 0xFE ∷ byte 0xFF ∷ byte 0xFF ∷ byte 0xFF ∷ byte 0xFF ∷ byte 0xFF ∷ byte 0xFF ∷ byte 0xFF
    ∷ zeros 40
    ∷ byte 0x01 ∷ byte 0x02 ∷ byte 0x00 ∷ byte 0x03 ∷ zeros 28 ∷ text "aaa" ∷ zeros 29 ∷ text "aa" ∷ blanks 22
    ∷ byte 0xAF ∷ byte 0x03 ∷ zeros 6 ∷ byte 0xFF ∷ byte 0xFF ∷ byte 0xFF ∷ byte 0xFF ∷ byte 0xFF ∷ byte 0xFF
    ∷ byte 0xFF ∷ byte 0xFF ∷ text "aaab" ∷ blanks 20 ∷ text "wKm" ∷ byte 0xCA ∷ byte 0xF3 ∷ byte 0x02 ∷ byte 0xC7
    ∷ byte 0x05 ∷ byte 0xFE ∷ byte 0xFF ∷ byte 0xFF ∷ byte 0xFF ∷ byte 0xFF ∷ byte 0xFF ∷ byte 0xFF ∷ byte 0xFF ∷ []

abbrev pub file1 : Parts
file1 =
    text "TKF" ∷ byte 0x03 ∷ byte 0x00 ∷ byte 0x03 ∷ byte 0x02 ∷ zeros 9
    ∷ byte 0x01 ∷ byte 0x02 ∷ byte 0x01 ∷ zeros 5 ∷ text "a" ∷ zeros 55 ∷ text "b" ∷ blanks 23 ∷ byte 0x0F ∷ zeros 15
    ∷ text "bab" ∷ blanks 21 ∷ byte 0xA3 ∷ byte 0x02 ∷ zeros 6 ∷ byte 0x05 ∷ zeros 47
    ∷ byte 0x01 ∷ byte 0x03 ∷ byte 0x00 ∷ byte 0x01 ∷ zeros 28 ∷ text "a" ∷ zeros 31 ∷ text "a" ∷ blanks 23 ∷ byte 0xF6
    ∷ zeros 7 ∷ byte 0xFF ∷ byte 0xFF ∷ byte 0xFF ∷ byte 0xFF ∷ byte 0xFF ∷ byte 0xFF ∷ byte 0xFF ∷ byte 0xFF
    ∷ text "aa" ∷ blanks 22 ∷ byte 0xC3 ∷ byte 0xDA ∷ byte 0x06 ∷ byte 0x95 ∷ text "v" ∷ byte 0x8E ∷ byte 0xB7
    ∷ byte 0x93 ∷ byte 0xFF ∷ byte 0xFF ∷ byte 0xFF ∷ byte 0xFF ∷ byte 0xFF ∷ byte 0xFF ∷ byte 0xFF ∷ byte 0xFF
    ∷ text "aba" ∷ blanks 21 ∷ zeros 8 ∷ byte 0x05 ∷ zeros 7 ∷ []

abbrev pub file2 : Parts
file2 =
    text "TKF" ∷ byte 0x02 ∷ byte 0x00 ∷ byte 0x03 ∷ byte 0x04 ∷ zeros 9
    ∷ byte 0x01 ∷ byte 0x03 ∷ zeros 62 ∷ text "nio" ∷ blanks 21 ∷ text "a" ∷ zeros 7 ∷ text "nioino" ∷ blanks 18
    ∷ text "[" ∷ byte 0xDA ∷ text "I" ∷ byte 0xAB ∷ byte 0xD3 ∷ text "UQfnioion" ∷ blanks 18 ∷ byte 0xC3 ∷ byte 0x01
    ∷ zeros 6
    ∷ zeros 160
    ∷ zeros 160
    ∷ zeros 160 ∷ []

abbrev pub file3 : Parts
file3 =
    text "TKF" ∷ byte 0x02 ∷ byte 0x00 ∷ byte 0x02 ∷ byte 0x04 ∷ zeros 9
    ∷ byte 0x01 ∷ byte 0x02 ∷ byte 0x01 ∷ byte 0x02 ∷ zeros 4 ∷ text "r" ∷ zeros 23 ∷ text "sr" ∷ zeros 30 ∷ text "s"
    ∷ blanks 23 ∷ text "H" ∷ byte 0x03 ∷ zeros 6 ∷ text "sr" ∷ blanks 22 ∷ text "l" ∷ byte 0x1F ∷ byte 0xA4 ∷ byte 0x1F
    ∷ byte 0x1C ∷ text "S" ∷ byte 0x10 ∷ byte 0xF6
    ∷ byte 0x01 ∷ byte 0x02 ∷ byte 0x02 ∷ zeros 5 ∷ text "sr" ∷ zeros 54 ∷ text "ss" ∷ blanks 22 ∷ byte 0xA7 ∷ byte 0x03
    ∷ zeros 6 ∷ text "sst" ∷ blanks 21 ∷ text "G" ∷ byte 0xBB ∷ byte 0xC6 ∷ text "Wk" ∷ byte 0xC7 ∷ text "TS"
    ∷ zeros 128
    ∷ byte 0x01 ∷ byte 0x02 ∷ byte 0x00 ∷ byte 0x01 ∷ zeros 28 ∷ text "r" ∷ zeros 31 ∷ text "r" ∷ blanks 23 ∷ byte 0x0C
    ∷ zeros 7 ∷ text "rs" ∷ blanks 22 ∷ byte 0xE3 ∷ zeros 7 ∷ []

abbrev pub file4 : Parts
file4 =
    text "TKF" ∷ byte 0x01 ∷ byte 0x00 ∷ byte 0x02 ∷ byte 0x04 ∷ zeros 9
    ∷ byte 0x01 ∷ byte 0x02 ∷ byte 0x00 ∷ byte 0x01 ∷ zeros 28 ∷ text "n" ∷ zeros 31 ∷ text "ioo" ∷ blanks 21
    ∷ byte 0xB3 ∷ zeros 7 ∷ text "n" ∷ blanks 23 ∷ byte 0xA8 ∷ byte 0x01 ∷ zeros 6
    ∷ byte 0x01 ∷ byte 0x01 ∷ byte 0x03 ∷ zeros 5 ∷ text "ooi" ∷ zeros 53 ∷ text "oon" ∷ blanks 21 ∷ byte 0x97
    ∷ byte 0x02 ∷ zeros 38
    ∷ byte 0x01 ∷ byte 0x01 ∷ byte 0x01 ∷ byte 0x02 ∷ zeros 4 ∷ text "n" ∷ zeros 23 ∷ text "o" ∷ byte 0x20 ∷ zeros 30
    ∷ text "o" ∷ blanks 23 ∷ byte 0x8F ∷ byte 0x01 ∷ zeros 38
    ∷ byte 0x01 ∷ byte 0x01 ∷ byte 0x02 ∷ byte 0x03 ∷ zeros 4 ∷ text "o" ∷ byte 0x20 ∷ zeros 22 ∷ text "ooi" ∷ zeros 29
    ∷ text "ooi" ∷ blanks 21 ∷ byte 0x8B ∷ byte 0x00 ∷ byte 0x92 ∷ text "M2" ∷ byte 0xEF ∷ text "E" ∷ byte 0xCE
    ∷ zeros 32 ∷ []

abbrev pub file5 : Parts
file5 =
    text "TKF" ∷ byte 0x02 ∷ byte 0x00 ∷ byte 0x02 ∷ byte 0x04 ∷ zeros 9
    ∷ byte 0x01 ∷ byte 0x02 ∷ byte 0x01 ∷ byte 0x02 ∷ zeros 4 ∷ text "i" ∷ zeros 23 ∷ text "ni" ∷ zeros 30 ∷ text "n"
    ∷ blanks 23 ∷ byte 0x1C ∷ byte 0x02 ∷ zeros 6 ∷ text "ni" ∷ blanks 22 ∷ byte 0xC6 ∷ byte 0x02 ∷ zeros 6
    ∷ byte 0x01 ∷ byte 0x02 ∷ byte 0x02 ∷ byte 0x01 ∷ zeros 4 ∷ text "ni" ∷ zeros 22 ∷ text "n" ∷ zeros 31 ∷ text "nni"
    ∷ blanks 21 ∷ byte 0x5C ∷ byte 0x03 ∷ zeros 6 ∷ text "no" ∷ blanks 22 ∷ byte 0xCF ∷ byte 0xF2 ∷ byte 0xF7
    ∷ byte 0xCF ∷ byte 0x90 ∷ byte 0x03 ∷ byte 0x7E ∷ byte 0x1C
    ∷ byte 0x01 ∷ byte 0x01 ∷ byte 0x00 ∷ byte 0x01 ∷ zeros 28 ∷ text "i" ∷ zeros 31 ∷ text "iii" ∷ blanks 21
    ∷ byte 0x03 ∷ byte 0x02 ∷ zeros 38
    ∷ byte 0x01 ∷ byte 0x01 ∷ byte 0x01 ∷ zeros 5 ∷ text "n" ∷ zeros 55 ∷ text "oii" ∷ blanks 21 ∷ byte 0x00 ∷ byte 0xF7
    ∷ byte 0x9B ∷ text "l" ∷ byte 0xC5 ∷ text "h" ∷ byte 0x95 ∷ text "T" ∷ zeros 32 ∷ []

abbrev pub file6 : Parts
file6 =
    text "TKF" ∷ byte 0x01 ∷ byte 0x00 ∷ byte 0x02 ∷ byte 0x04 ∷ zeros 9
    ∷ byte 0x01 ∷ byte 0x01 ∷ byte 0x02 ∷ byte 0x01 ∷ zeros 4 ∷ text "!!" ∷ zeros 22 ∷ text "!" ∷ zeros 31 ∷ text "!}!"
    ∷ blanks 21 ∷ text "`" ∷ byte 0x02 ∷ zeros 38
    ∷ byte 0x01 ∷ byte 0x01 ∷ byte 0x00 ∷ byte 0x02 ∷ zeros 28 ∷ text "!!" ∷ zeros 30 ∷ text "!!" ∷ blanks 22
    ∷ byte 0xA7 ∷ byte 0x03 ∷ zeros 38
    ∷ byte 0x01 ∷ byte 0x01 ∷ byte 0x02 ∷ zeros 5 ∷ text "}!" ∷ zeros 54 ∷ text "}}" ∷ blanks 22 ∷ byte 0x9A ∷ text "y"
    ∷ byte 0xC9 ∷ byte 0xB3 ∷ byte 0x5C ∷ text "t" ∷ byte 0x96 ∷ text "|" ∷ zeros 32
    ∷ byte 0x01 ∷ byte 0x01 ∷ byte 0x01 ∷ byte 0x02 ∷ zeros 4 ∷ text "!" ∷ zeros 23 ∷ text "}!" ∷ zeros 30 ∷ text "}!}"
    ∷ blanks 21 ∷ byte 0xDB ∷ byte 0xF7 ∷ text "EF" ∷ byte 0xD9 ∷ text "G" ∷ byte 0x16 ∷ byte 0xFF ∷ zeros 32 ∷ []

abbrev pub file7 : Parts
file7 =
    text "TKF" ∷ byte 0x01 ∷ byte 0x00 ∷ byte 0x03 ∷ byte 0x04 ∷ zeros 9
    ∷ byte 0x01 ∷ byte 0x02 ∷ byte 0x01 ∷ zeros 5 ∷ text "y" ∷ zeros 55 ∷ text "z" ∷ blanks 23 ∷ byte 0xAC ∷ text "s"
    ∷ byte 0xA8 ∷ text "4" ∷ byte 0xDC ∷ text "o" ∷ byte 0xDD ∷ byte 0xFC ∷ text "zy" ∷ blanks 22 ∷ byte 0xFF
    ∷ byte 0xFF ∷ byte 0xFF ∷ byte 0xFF ∷ byte 0xFF ∷ byte 0xFF ∷ byte 0xFF ∷ byte 0xFF ∷ zeros 32
    ∷ byte 0x01 ∷ byte 0x01 ∷ byte 0x02 ∷ byte 0x01 ∷ zeros 4 ∷ text "xy" ∷ zeros 22 ∷ text "x" ∷ zeros 31 ∷ text "xzy"
    ∷ blanks 21 ∷ byte 0xFF ∷ byte 0xFF ∷ byte 0xFF ∷ byte 0xFF ∷ byte 0xFF ∷ byte 0xFF ∷ byte 0xFF ∷ byte 0xFF
    ∷ zeros 64
    ∷ byte 0x01 ∷ byte 0x02 ∷ byte 0x01 ∷ byte 0x01 ∷ zeros 4 ∷ text "x" ∷ zeros 23 ∷ text "y" ∷ zeros 31 ∷ text "yx"
    ∷ blanks 22 ∷ byte 0xBC ∷ byte 0x02 ∷ zeros 6 ∷ text "yy" ∷ blanks 22 ∷ byte 0x88 ∷ byte 0x01 ∷ zeros 38
    ∷ byte 0x01 ∷ byte 0x03 ∷ byte 0x00 ∷ byte 0x02 ∷ zeros 28 ∷ text "xy" ∷ zeros 30 ∷ text "x" ∷ blanks 23 ∷ byte 0x85
    ∷ byte 0x03 ∷ zeros 6 ∷ text "xy" ∷ blanks 22 ∷ byte 0xB5 ∷ byte 0x02 ∷ zeros 6 ∷ text "xyx" ∷ blanks 21 ∷ byte 0xFE
    ∷ zeros 7 ∷ []

abbrev pub file8 : Parts
file8 =
    text "TKF" ∷ byte 0x02 ∷ byte 0x00 ∷ byte 0x02 ∷ byte 0x03 ∷ zeros 9
    ∷ byte 0x01 ∷ byte 0x02 ∷ byte 0x00 ∷ byte 0x03 ∷ zeros 28 ∷ text "rss" ∷ zeros 29 ∷ text "rsrtt" ∷ blanks 19
    ∷ byte 0xA0 ∷ byte 0x01 ∷ zeros 6 ∷ text "rss" ∷ blanks 21 ∷ byte 0xFF ∷ byte 0xFF ∷ byte 0xFF ∷ byte 0xFF
    ∷ byte 0xFF ∷ byte 0xFF ∷ byte 0xFF ∷ byte 0xFF
    ∷ byte 0x01 ∷ byte 0x02 ∷ byte 0x03 ∷ zeros 5 ∷ text "rss" ∷ zeros 53 ∷ text "rstt" ∷ blanks 20 ∷ text "g"
    ∷ byte 0xCB ∷ byte 0xB7 ∷ byte 0xD0 ∷ byte 0xBA ∷ byte 0xC0 ∷ text "XMtrt" ∷ blanks 21 ∷ byte 0x93 ∷ byte 0x02
    ∷ zeros 6
    ∷ zeros 128 ∷ []

abbrev pub file9 : Parts
file9 =
    text "TKF" ∷ byte 0x01 ∷ byte 0x00 ∷ byte 0x02 ∷ byte 0x02 ∷ zeros 9
    ∷ byte 0x01 ∷ byte 0x02 ∷ byte 0x00 ∷ byte 0x03 ∷ zeros 28 ∷ text "oo" ∷ byte 0x20 ∷ zeros 29 ∷ text "i" ∷ blanks 23
    ∷ byte 0x16 ∷ byte 0xF0 ∷ byte 0x06 ∷ byte 0x7E ∷ byte 0xA5 ∷ byte 0xD7 ∷ byte 0x98 ∷ byte 0xEB ∷ text "oo"
    ∷ blanks 23 ∷ byte 0x03 ∷ zeros 6
    ∷ byte 0x01 ∷ byte 0x01 ∷ byte 0x03 ∷ zeros 5 ∷ text "oo" ∷ byte 0x20 ∷ zeros 53 ∷ text "ooni" ∷ blanks 20
    ∷ text "r" ∷ zeros 39 ∷ []

abbrev pub file10 : Parts
file10 =
    text "TKF" ∷ byte 0x03 ∷ byte 0x00 ∷ byte 0x02 ∷ byte 0x04 ∷ zeros 9
    ∷ byte 0x01 ∷ byte 0x02 ∷ byte 0x00 ∷ byte 0x01 ∷ zeros 28 ∷ text "a" ∷ zeros 31 ∷ text "a" ∷ blanks 23 ∷ byte 0xDF
    ∷ byte 0x03 ∷ zeros 6 ∷ byte 0xFF ∷ byte 0xFF ∷ byte 0xFF ∷ byte 0xFF ∷ byte 0xFF ∷ byte 0xFF ∷ byte 0xFF
    ∷ byte 0xFF ∷ text "aa" ∷ blanks 22 ∷ byte 0x04 ∷ zeros 15
    ∷ byte 0x01 ∷ byte 0x02 ∷ byte 0x01 ∷ byte 0x02 ∷ zeros 4 ∷ text "a" ∷ zeros 23 ∷ text "ba" ∷ zeros 30 ∷ text "b"
    ∷ blanks 23 ∷ text "Q" ∷ byte 0x03 ∷ zeros 6 ∷ byte 0x04 ∷ zeros 7 ∷ text "baa" ∷ blanks 21 ∷ text "i" ∷ byte 0x01
    ∷ zeros 6 ∷ byte 0xFF ∷ byte 0xFF ∷ byte 0xFF ∷ byte 0xFF ∷ byte 0xFF ∷ byte 0xFF ∷ byte 0xFF ∷ byte 0xFF
    ∷ byte 0x01 ∷ byte 0x01 ∷ byte 0x02 ∷ zeros 5 ∷ text "ba" ∷ zeros 54 ∷ text "bbb" ∷ blanks 21 ∷ text "9" ∷ byte 0x02
    ∷ zeros 6 ∷ byte 0x02 ∷ zeros 47
    ∷ zeros 144 ∷ []

abbrev pub file11 : Parts
file11 =
    text "TKF" ∷ byte 0x03 ∷ byte 0x00 ∷ byte 0x03 ∷ byte 0x04 ∷ zeros 9
    ∷ byte 0x01 ∷ byte 0x01 ∷ byte 0x00 ∷ byte 0x01 ∷ zeros 28 ∷ text "r" ∷ zeros 31 ∷ text "rt" ∷ blanks 22 ∷ byte 0xBC
    ∷ byte 0x01 ∷ zeros 6 ∷ byte 0x05 ∷ zeros 87
    ∷ byte 0x01 ∷ byte 0x02 ∷ byte 0x01 ∷ byte 0x03 ∷ zeros 4 ∷ text "r" ∷ zeros 23 ∷ text "tts" ∷ zeros 29 ∷ text "ttr"
    ∷ blanks 21 ∷ byte 0xEB ∷ byte 0x01 ∷ zeros 6 ∷ text "Qw" ∷ byte 0xEA ∷ text "]" ∷ byte 0x09 ∷ byte 0x18 ∷ byte 0xCC
    ∷ byte 0x08 ∷ text "tts" ∷ blanks 21 ∷ text "R" ∷ byte 0x03 ∷ zeros 6 ∷ byte 0x02 ∷ zeros 47
    ∷ byte 0x01 ∷ byte 0x03 ∷ byte 0x03 ∷ zeros 5 ∷ text "tts" ∷ zeros 53 ∷ text "tttrt" ∷ blanks 19 ∷ byte 0x1F
    ∷ byte 0x03 ∷ zeros 6 ∷ byte 0x03 ∷ zeros 7 ∷ text "ttts" ∷ blanks 20 ∷ byte 0xCC ∷ byte 0x03 ∷ zeros 6 ∷ byte 0x05
    ∷ zeros 7 ∷ text "ttttr" ∷ blanks 19 ∷ byte 0x80 ∷ zeros 7 ∷ byte 0x01 ∷ zeros 7
    ∷ zeros 184 ∷ []

abbrev pub file12 : Parts
file12 =
    text "TKF" ∷ byte 0x03 ∷ byte 0x00 ∷ byte 0x03 ∷ byte 0x02 ∷ zeros 9
    ∷ byte 0x01 ∷ byte 0x02 ∷ byte 0x00 ∷ byte 0x02 ∷ zeros 28 ∷ text "aa" ∷ zeros 30 ∷ text "aa" ∷ blanks 22
    ∷ byte 0x02 ∷ byte 0x01 ∷ zeros 6 ∷ byte 0x05 ∷ zeros 7 ∷ text "aaaa" ∷ blanks 20 ∷ text "9" ∷ byte 0x02 ∷ zeros 6
    ∷ byte 0x04 ∷ zeros 47
    ∷ byte 0x01 ∷ byte 0x02 ∷ byte 0x02 ∷ zeros 5 ∷ text "aa" ∷ zeros 54 ∷ text "ab" ∷ blanks 22 ∷ byte 0x1B ∷ byte 0x03
    ∷ zeros 6 ∷ byte 0xFE ∷ byte 0xFF ∷ byte 0xFF ∷ byte 0xFF ∷ byte 0xFF ∷ byte 0xFF ∷ byte 0xFF ∷ byte 0xFF
    ∷ text "abba" ∷ blanks 20 ∷ byte 0x1E ∷ byte 0x02 ∷ zeros 54 ∷ []

abbrev pub file13 : Parts
file13 =
    text "TKF" ∷ byte 0x03 ∷ byte 0x00 ∷ byte 0x03 ∷ byte 0x04 ∷ zeros 9
    ∷ byte 0x01 ∷ byte 0x03 ∷ byte 0x00 ∷ byte 0x03 ∷ zeros 28 ∷ text "ii" ∷ byte 0x20 ∷ zeros 29 ∷ text "ii"
    ∷ blanks 22 ∷ text "3" ∷ byte 0x02 ∷ zeros 6 ∷ byte 0x03 ∷ zeros 7 ∷ text "ii" ∷ blanks 2 ∷ text "i" ∷ blanks 19
    ∷ text "i" ∷ zeros 7 ∷ byte 0x03 ∷ zeros 7 ∷ text "ii" ∷ byte 0x20 ∷ text "n" ∷ blanks 20 ∷ byte 0xE1 ∷ byte 0xBB
    ∷ byte 0x8C ∷ byte 0xE1 ∷ byte 0x07 ∷ text "W" ∷ byte 0xF1 ∷ text "3" ∷ byte 0xFF ∷ byte 0xFF ∷ byte 0xFF
    ∷ byte 0xFF ∷ byte 0xFF ∷ byte 0xFF ∷ byte 0xFF ∷ byte 0xFF
    ∷ byte 0x01 ∷ byte 0x02 ∷ byte 0x03 ∷ zeros 5 ∷ text "ii" ∷ byte 0x20 ∷ zeros 53 ∷ text "iin" ∷ byte 0x20 ∷ text "n"
    ∷ blanks 19 ∷ text "_" ∷ byte 0x98 ∷ byte 0xC8 ∷ byte 0xA4 ∷ byte 0xB5 ∷ byte 0xE6 ∷ byte 0xF8 ∷ text "Xboq"
    ∷ byte 0x1A ∷ byte 0xC4 ∷ byte 0xAB ∷ text "G" ∷ byte 0x87 ∷ text "iinii" ∷ blanks 19 ∷ byte 0xA6 ∷ byte 0x01
    ∷ zeros 6 ∷ byte 0x03 ∷ zeros 47
    ∷ zeros 184
    ∷ zeros 184 ∷ []

abbrev pub file14 : Parts
file14 =
    text "TKF" ∷ byte 0x03 ∷ byte 0x00 ∷ byte 0x02 ∷ byte 0x03 ∷ zeros 9
    ∷ byte 0x01 ∷ byte 0x01 ∷ byte 0x00 ∷ byte 0x02 ∷ zeros 28 ∷ text "}" ∷ byte 0x20 ∷ zeros 30 ∷ text "}" ∷ blanks 23
    ∷ byte 0xFF ∷ byte 0xFF ∷ byte 0xFF ∷ byte 0xFF ∷ byte 0xFF ∷ byte 0xFF ∷ byte 0xFF ∷ byte 0xFF ∷ byte 0xCF
    ∷ byte 0xC2 ∷ text "s" ∷ byte 0x85 ∷ byte 0xAB ∷ byte 0x82 ∷ text "7" ∷ byte 0x20 ∷ zeros 40
    ∷ byte 0x01 ∷ byte 0x02 ∷ byte 0x02 ∷ byte 0x02 ∷ zeros 4 ∷ text "}" ∷ byte 0x20 ∷ zeros 22 ∷ text "}a" ∷ zeros 30
    ∷ text "}!" ∷ blanks 22 ∷ byte 0x22 ∷ zeros 7 ∷ byte 0x02 ∷ zeros 7 ∷ text "}!!a" ∷ blanks 20 ∷ byte 0xEC
    ∷ byte 0x02 ∷ zeros 6 ∷ byte 0x03 ∷ zeros 7
    ∷ byte 0x01 ∷ byte 0x02 ∷ byte 0x02 ∷ zeros 5 ∷ text "}a" ∷ zeros 54 ∷ text "}}" ∷ blanks 22 ∷ byte 0x03 ∷ byte 0x01
    ∷ zeros 6 ∷ byte 0x04 ∷ zeros 7 ∷ text "}}}!" ∷ blanks 20 ∷ text "^" ∷ byte 0x01 ∷ zeros 6 ∷ byte 0x02 ∷ zeros 7
    ∷ []

abbrev pub file15 : Parts
file15 =
    text "TKF" ∷ byte 0x03 ∷ byte 0x00 ∷ byte 0x03 ∷ byte 0x03 ∷ zeros 9
    ∷ byte 0x01 ∷ byte 0x01 ∷ byte 0x00 ∷ byte 0x01 ∷ zeros 28 ∷ text "n" ∷ zeros 31 ∷ text "io" ∷ blanks 22 ∷ byte 0xB4
    ∷ zeros 7 ∷ byte 0x02 ∷ zeros 87
    ∷ byte 0x01 ∷ byte 0x03 ∷ byte 0x01 ∷ byte 0x02 ∷ zeros 4 ∷ text "n" ∷ zeros 23 ∷ text "oi" ∷ zeros 30 ∷ text "o"
    ∷ blanks 23 ∷ byte 0x95 ∷ byte 0x02 ∷ zeros 6 ∷ byte 0x03 ∷ zeros 7 ∷ text "oi" ∷ blanks 22 ∷ byte 0x1A ∷ zeros 15
    ∷ text "oii" ∷ blanks 21 ∷ byte 0xCE ∷ byte 0xE9 ∷ byte 0x1A ∷ byte 0x80 ∷ byte 0xAF ∷ text "y" ∷ byte 0xCE
    ∷ byte 0x8D ∷ byte 0xFE ∷ byte 0xFF ∷ byte 0xFF ∷ byte 0xFF ∷ byte 0xFF ∷ byte 0xFF ∷ byte 0xFF ∷ byte 0xFF
    ∷ byte 0x01 ∷ byte 0x01 ∷ byte 0x02 ∷ zeros 5 ∷ text "oi" ∷ zeros 54 ∷ text "on" ∷ blanks 22 ∷ byte 0xB3 ∷ byte 0x03
    ∷ zeros 6 ∷ byte 0xBD ∷ byte 0x15 ∷ byte 0xCF ∷ byte 0xF8 ∷ text "4" ∷ byte 0x1E ∷ text "X" ∷ byte 0xF7 ∷ zeros 80
    ∷ []

abbrev pub file16 : Parts
file16 =
    text "TKF" ∷ byte 0x02 ∷ byte 0x00 ∷ byte 0x02 ∷ byte 0x02 ∷ zeros 9
    ∷ byte 0x01 ∷ byte 0x01 ∷ byte 0x00 ∷ byte 0x02 ∷ zeros 28 ∷ text "!" ∷ byte 0x20 ∷ zeros 30 ∷ text "!" ∷ blanks 23
    ∷ text "L" ∷ byte 0x03 ∷ zeros 38
    ∷ byte 0x01 ∷ byte 0x02 ∷ byte 0x02 ∷ zeros 5 ∷ text "!" ∷ byte 0x20 ∷ zeros 54 ∷ text "!}" ∷ blanks 22 ∷ text "h"
    ∷ byte 0xDF ∷ byte 0x94 ∷ text "?" ∷ byte 0x92 ∷ byte 0xEC ∷ byte 0xC5 ∷ byte 0x96 ∷ text "!}}" ∷ blanks 21
    ∷ text "1" ∷ byte 0x01 ∷ zeros 6 ∷ []

abbrev pub file17 : Parts
file17 =
    text "TKF" ∷ byte 0x01 ∷ byte 0x00 ∷ byte 0x02 ∷ byte 0x03 ∷ zeros 9
    ∷ byte 0x01 ∷ byte 0x02 ∷ byte 0x00 ∷ byte 0x06 ∷ zeros 28 ∷ text "oiniin" ∷ zeros 26 ∷ text "oini" ∷ blanks 20
    ∷ zeros 8 ∷ text "oiniin" ∷ blanks 18 ∷ text "s" ∷ byte 0x01 ∷ zeros 6
    ∷ byte 0x01 ∷ byte 0x02 ∷ byte 0x05 ∷ zeros 5 ∷ text "oinii" ∷ zeros 51 ∷ text "oinin" ∷ blanks 19 ∷ byte 0xB3
    ∷ byte 0x01 ∷ zeros 6 ∷ text "oinionn" ∷ blanks 17 ∷ byte 0xB2 ∷ byte 0x01 ∷ zeros 6
    ∷ byte 0x01 ∷ byte 0x01 ∷ byte 0x06 ∷ byte 0x05 ∷ zeros 4 ∷ text "oiniin" ∷ zeros 18 ∷ text "oinii" ∷ zeros 27
    ∷ text "oiniio" ∷ blanks 18 ∷ byte 0xEF ∷ text "#" ∷ byte 0x83 ∷ byte 0x83 ∷ byte 0xA2 ∷ text "i" ∷ byte 0xD5
    ∷ byte 0xAC ∷ zeros 32 ∷ []

abbrev pub file18 : Parts
file18 =
    text "TKF" ∷ byte 0x02 ∷ byte 0x00 ∷ byte 0x02 ∷ byte 0x03 ∷ zeros 9
    ∷ byte 0x01 ∷ byte 0x01 ∷ byte 0x00 ∷ byte 0x04 ∷ zeros 28 ∷ text "abb" ∷ byte 0x20 ∷ zeros 28 ∷ text "abb"
    ∷ blanks 2 ∷ text "a" ∷ blanks 18 ∷ text "n" ∷ byte 0x03 ∷ zeros 38
    ∷ byte 0x01 ∷ byte 0x02 ∷ byte 0x04 ∷ zeros 5 ∷ text "abb" ∷ byte 0x20 ∷ zeros 52 ∷ text "abba" ∷ blanks 20
    ∷ byte 0xD8 ∷ byte 0x01 ∷ zeros 6 ∷ text "abba" ∷ byte 0x20 ∷ text "a" ∷ blanks 18 ∷ text "]5" ∷ byte 0xB2
    ∷ byte 0xD0 ∷ byte 0x0F ∷ byte 0xEA ∷ byte 0xAF ∷ byte 0xE6
    ∷ zeros 128 ∷ []

abbrev pub file19 : Parts
file19 =
    text "TKF" ∷ byte 0x03 ∷ byte 0x00 ∷ byte 0x03 ∷ byte 0x02 ∷ zeros 9
    ∷ byte 0x01 ∷ byte 0x01 ∷ byte 0x00 ∷ byte 0x0A ∷ zeros 28 ∷ text "!}!!!}!!}" ∷ byte 0x20 ∷ zeros 22
    ∷ text "!}!!!}!!}" ∷ blanks 15 ∷ byte 0xD8 ∷ byte 0x01 ∷ zeros 94
    ∷ byte 0x01 ∷ byte 0x03 ∷ byte 0x0A ∷ zeros 5 ∷ text "!}!!!}!!}" ∷ byte 0x20 ∷ zeros 46 ∷ text "!}!!!}!!}!"
    ∷ blanks 14 ∷ byte 0x14 ∷ zeros 7 ∷ byte 0x02 ∷ zeros 7 ∷ text "!}!!!}!!}!!}!!!!!" ∷ blanks 7 ∷ byte 0xD3
    ∷ byte 0x03 ∷ zeros 14 ∷ text "!}!!!}!!}!!}!!!!!}!}!" ∷ blanks 3 ∷ byte 0x9A ∷ text "_" ∷ byte 0xA2 ∷ byte 0x13
    ∷ byte 0xC6 ∷ text "lA" ∷ byte 0xC8 ∷ byte 0xFF ∷ byte 0xFF ∷ byte 0xFF ∷ byte 0xFF ∷ byte 0xFF ∷ byte 0xFF
    ∷ byte 0xFF ∷ byte 0xFF ∷ []

abbrev pub file20 : Parts
file20 =
    text "TKF" ∷ byte 0x01 ∷ byte 0x00 ∷ byte 0x02 ∷ byte 0x03 ∷ zeros 9
    ∷ byte 0x01 ∷ byte 0x02 ∷ byte 0x00 ∷ byte 0x04 ∷ zeros 28 ∷ text "zxxy" ∷ zeros 28 ∷ text "zxxx" ∷ blanks 20
    ∷ byte 0xDE ∷ zeros 7 ∷ text "zxxy" ∷ blanks 20 ∷ byte 0xC0 ∷ byte 0x03 ∷ zeros 6
    ∷ byte 0x01 ∷ byte 0x01 ∷ byte 0x04 ∷ zeros 5 ∷ text "zxxy" ∷ zeros 52 ∷ text "zxxz" ∷ blanks 20 ∷ byte 0xB0
    ∷ byte 0x01 ∷ zeros 38
    ∷ zeros 128 ∷ []

abbrev pub file21 : Parts
file21 =
    text "TKF" ∷ byte 0x01 ∷ byte 0x00 ∷ byte 0x03 ∷ byte 0x04 ∷ zeros 9
    ∷ byte 0x01 ∷ byte 0x03 ∷ byte 0x00 ∷ byte 0x03 ∷ zeros 28 ∷ text "aaa" ∷ zeros 29 ∷ text "aa" ∷ blanks 22
    ∷ text "Ke" ∷ byte 0xD1 ∷ text "u" ∷ byte 0x1A ∷ byte 0xD9 ∷ text "P" ∷ byte 0x93 ∷ text "aaa" ∷ blanks 21
    ∷ byte 0xCB ∷ byte 0x02 ∷ zeros 6 ∷ text "aaaab" ∷ blanks 19 ∷ byte 0xFA ∷ byte 0x02 ∷ zeros 6
    ∷ byte 0x01 ∷ byte 0x02 ∷ byte 0x03 ∷ zeros 5 ∷ text "aaa" ∷ zeros 53 ∷ text "aab" ∷ blanks 21 ∷ text "o"
    ∷ byte 0x01 ∷ zeros 6 ∷ text "aabab" ∷ blanks 19 ∷ text "X" ∷ zeros 39
    ∷ zeros 160
    ∷ zeros 160 ∷ []

abbrev pub file22 : Parts
file22 =
    text "TKF" ∷ byte 0x02 ∷ byte 0x00 ∷ byte 0x02 ∷ byte 0x03 ∷ zeros 9
    ∷ byte 0x01 ∷ byte 0x02 ∷ byte 0x00 ∷ byte 0x02 ∷ zeros 28 ∷ text "ii" ∷ zeros 30 ∷ text "ii" ∷ blanks 22
    ∷ byte 0x99 ∷ zeros 7 ∷ text "iino" ∷ blanks 20 ∷ byte 0x7F ∷ byte 0x02 ∷ zeros 6
    ∷ byte 0x01 ∷ byte 0x01 ∷ byte 0x02 ∷ byte 0x03 ∷ zeros 4 ∷ text "ii" ∷ zeros 22 ∷ text "in" ∷ byte 0x20 ∷ zeros 29
    ∷ text "in" ∷ blanks 22 ∷ text "P" ∷ byte 0x03 ∷ zeros 38
    ∷ byte 0x01 ∷ byte 0x02 ∷ byte 0x03 ∷ zeros 5 ∷ text "in" ∷ byte 0x20 ∷ zeros 53 ∷ text "ini" ∷ blanks 21 ∷ text "6"
    ∷ byte 0x01 ∷ zeros 6 ∷ text "inion" ∷ blanks 19 ∷ byte 0x88 ∷ byte 0x02 ∷ zeros 6 ∷ []

abbrev pub file23 : Parts
file23 =
    text "TKF" ∷ byte 0x02 ∷ byte 0x00 ∷ byte 0x02 ∷ byte 0x04 ∷ zeros 9
    ∷ byte 0x01 ∷ byte 0x01 ∷ byte 0x00 ∷ byte 0x03 ∷ zeros 28 ∷ text "baa" ∷ zeros 29 ∷ text "baa" ∷ blanks 21
    ∷ byte 0xF0 ∷ byte 0x01 ∷ zeros 38
    ∷ byte 0x01 ∷ byte 0x02 ∷ byte 0x03 ∷ zeros 5 ∷ text "baa" ∷ zeros 53 ∷ text "babaa" ∷ blanks 19 ∷ text "l"
    ∷ byte 0x03 ∷ zeros 6 ∷ text "babba" ∷ blanks 19 ∷ byte 0x8B ∷ byte 0x03 ∷ zeros 6
    ∷ zeros 128
    ∷ zeros 3 ∷ byte 0xFF ∷ zeros 124 ∷ []

abbrev pub file24 : Parts
file24 =
    text "TKF" ∷ byte 0x01 ∷ byte 0x00 ∷ byte 0x03 ∷ byte 0x04 ∷ zeros 9
    ∷ byte 0x01 ∷ byte 0x03 ∷ byte 0x00 ∷ byte 0x04 ∷ zeros 28 ∷ text "oiii" ∷ zeros 28 ∷ text "oii" ∷ blanks 21
    ∷ byte 0xBB ∷ byte 0x02 ∷ zeros 6 ∷ text "oiiino" ∷ blanks 18 ∷ text "k" ∷ byte 0x02 ∷ zeros 6 ∷ text "oiiioi"
    ∷ blanks 18 ∷ byte 0x17 ∷ text ")" ∷ byte 0xEC ∷ text "Ru" ∷ byte 0x06 ∷ text "R" ∷ byte 0xBF
    ∷ byte 0x01 ∷ byte 0x01 ∷ byte 0x04 ∷ zeros 5 ∷ text "oiii" ∷ zeros 52 ∷ text "oiinin" ∷ blanks 18 ∷ text "7"
    ∷ byte 0x02 ∷ zeros 70
    ∷ byte 0x01 ∷ byte 0x01 ∷ byte 0x0C ∷ byte 0x07 ∷ zeros 4 ∷ text "oiiino" ∷ blanks 6 ∷ zeros 12 ∷ text "oiio"
    ∷ blanks 3 ∷ zeros 25 ∷ text "oiiioi" ∷ blanks 18 ∷ byte 0x17 ∷ text ")" ∷ byte 0xEC ∷ text "Ru" ∷ byte 0x06
    ∷ text "R" ∷ byte 0xBF ∷ zeros 64
    ∷ zeros 160 ∷ []

abbrev pub file25 : Parts
file25 =
    text "TKF" ∷ byte 0x01 ∷ byte 0x00 ∷ byte 0x03 ∷ byte 0x01 ∷ zeros 9
    ∷ byte 0x01 ∷ byte 0x02 ∷ byte 0x00 ∷ byte 0x01 ∷ zeros 28 ∷ text "y" ∷ zeros 31 ∷ text "y" ∷ blanks 23 ∷ byte 0x90
    ∷ zeros 7 ∷ text "yy" ∷ blanks 22 ∷ byte 0x8D ∷ byte 0x98 ∷ text "vo" ∷ byte 0x9C ∷ text "'j" ∷ byte 0xDC ∷ zeros 32
    ∷ []

abbrev pub file26 : Parts
file26 =
    text "TKF" ∷ byte 0x01 ∷ byte 0x00 ∷ byte 0x02 ∷ byte 0x02 ∷ zeros 9
    ∷ byte 0x01 ∷ byte 0x02 ∷ byte 0x00 ∷ byte 0x01 ∷ zeros 28 ∷ text "i" ∷ zeros 31 ∷ text "i" ∷ blanks 23 ∷ byte 0x99
    ∷ byte 0x01 ∷ zeros 6 ∷ text "i" ∷ blanks 3 ∷ text "i" ∷ blanks 19 ∷ byte 0x90 ∷ byte 0x02 ∷ zeros 6
    ∷ byte 0x01 ∷ byte 0x01 ∷ byte 0x01 ∷ zeros 5 ∷ text "i" ∷ zeros 55 ∷ text "n" ∷ blanks 23 ∷ byte 0x98 ∷ text ">*@"
    ∷ byte 0xB9 ∷ byte 0xB7 ∷ byte 0x0E ∷ byte 0x09 ∷ zeros 32 ∷ []

abbrev pub file27 : Parts
file27 =
    text "TKF" ∷ byte 0x02 ∷ byte 0x00 ∷ byte 0x03 ∷ byte 0x04 ∷ zeros 9
    ∷ byte 0x01 ∷ byte 0x01 ∷ byte 0x00 ∷ byte 0x01 ∷ zeros 28 ∷ text "a" ∷ zeros 31 ∷ text "a" ∷ blanks 23 ∷ byte 0x0B
    ∷ text "s" ∷ byte 0xBA ∷ byte 0x10 ∷ byte 0x15 ∷ text "8u" ∷ byte 0xC8 ∷ zeros 64
    ∷ byte 0x01 ∷ byte 0x03 ∷ byte 0x01 ∷ zeros 5 ∷ text "a" ∷ zeros 55 ∷ text "}" ∷ blanks 23 ∷ byte 0xB2 ∷ zeros 7
    ∷ text "}}" ∷ blanks 22 ∷ zeros 8 ∷ text "}}}" ∷ blanks 21 ∷ text "Kt" ∷ byte 0x1D ∷ text "^" ∷ byte 0x8A
    ∷ byte 0x8D ∷ byte 0x11 ∷ text "a"
    ∷ zeros 160
    ∷ byte 0x01 ∷ byte 0x02 ∷ byte 0x06 ∷ zeros 5 ∷ text "}" ∷ blanks 3 ∷ text "}!" ∷ zeros 50 ∷ text "}" ∷ blanks 3
    ∷ text "}_" ∷ blanks 18 ∷ byte 0xFF ∷ byte 0xFF ∷ byte 0xFF ∷ byte 0xFF ∷ byte 0xFF ∷ byte 0xFF ∷ byte 0xFF
    ∷ byte 0xFF ∷ text "}}}" ∷ blanks 21 ∷ text "Kt" ∷ byte 0x1D ∷ text "^" ∷ byte 0x8A ∷ byte 0x8D ∷ byte 0x11
    ∷ text "a" ∷ zeros 32 ∷ []

abbrev pub file28 : Parts
file28 =
    text "TKF" ∷ byte 0x01 ∷ byte 0x00 ∷ byte 0x02 ∷ byte 0x03 ∷ zeros 9
    ∷ byte 0x01 ∷ byte 0x02 ∷ byte 0x00 ∷ byte 0x04 ∷ zeros 28 ∷ text "ab" ∷ blanks 2 ∷ zeros 28 ∷ text "a" ∷ blanks 23
    ∷ text "m" ∷ byte 0xEC ∷ byte 0xC9 ∷ byte 0xAE ∷ text "2W" ∷ byte 0x1C ∷ byte 0xFA ∷ text "ab" ∷ blanks 22
    ∷ text "]" ∷ byte 0x02 ∷ zeros 6
    ∷ byte 0x01 ∷ byte 0x01 ∷ byte 0x04 ∷ zeros 5 ∷ text "ab" ∷ blanks 2 ∷ zeros 52 ∷ text "ab" ∷ byte 0x20 ∷ text "a"
    ∷ blanks 20 ∷ text "m" ∷ byte 0x02 ∷ zeros 38
    ∷ byte 0x01 ∷ byte 0x01 ∷ byte 0x02 ∷ byte 0x04 ∷ zeros 4 ∷ text "aa" ∷ zeros 22 ∷ text "ab" ∷ blanks 2 ∷ zeros 28
    ∷ text "ab" ∷ blanks 22 ∷ text "]" ∷ byte 0x02 ∷ zeros 38 ∷ []

abbrev pub file29 : Parts
file29 =
    text "TKF" ∷ byte 0x03 ∷ byte 0x00 ∷ byte 0x03 ∷ byte 0x03 ∷ zeros 9
    ∷ byte 0x01 ∷ byte 0x02 ∷ byte 0x00 ∷ byte 0x04 ∷ zeros 28 ∷ text "aa" ∷ byte 0x20 ∷ text "a" ∷ zeros 28 ∷ text "aa"
    ∷ blanks 22 ∷ text "HS" ∷ byte 0xC1 ∷ text "Wy" ∷ byte 0xCC ∷ byte 0x83 ∷ text "]" ∷ byte 0x01 ∷ zeros 7 ∷ text "aa"
    ∷ byte 0x20 ∷ text "ab" ∷ blanks 19 ∷ byte 0x16 ∷ byte 0x03 ∷ zeros 6 ∷ byte 0x04 ∷ zeros 47
    ∷ byte 0x01 ∷ byte 0x02 ∷ byte 0x03 ∷ zeros 5 ∷ text "aa" ∷ byte 0x20 ∷ zeros 53 ∷ text "aaab" ∷ blanks 20
    ∷ byte 0xB3 ∷ text "Ie%" ∷ byte 0x0D ∷ text "$3" ∷ byte 0xFB ∷ byte 0x02 ∷ zeros 7 ∷ text "aba" ∷ blanks 21
    ∷ byte 0xE4 ∷ byte 0x02 ∷ zeros 54
    ∷ byte 0x01 ∷ byte 0x02 ∷ byte 0x04 ∷ byte 0x03 ∷ zeros 4 ∷ text "aa" ∷ byte 0x20 ∷ text "a" ∷ zeros 20 ∷ text "aa"
    ∷ byte 0x20 ∷ zeros 29 ∷ text "aa" ∷ byte 0x20 ∷ text "ba" ∷ byte 0x20 ∷ text "a" ∷ blanks 17 ∷ byte 0xDD ∷ zeros 7
    ∷ byte 0x02 ∷ zeros 7 ∷ text "aa" ∷ byte 0x20 ∷ text "babb" ∷ blanks 17 ∷ byte 0xAF ∷ byte 0x02 ∷ zeros 6
    ∷ byte 0x02 ∷ zeros 47 ∷ []

abbrev pub file30 : Parts
file30 =
    text "TKF" ∷ byte 0x01 ∷ byte 0x00 ∷ byte 0x02 ∷ byte 0x02 ∷ zeros 9
    ∷ byte 0x01 ∷ byte 0x02 ∷ byte 0x00 ∷ byte 0x03 ∷ zeros 28 ∷ text "aaa" ∷ zeros 29 ∷ text "aa" ∷ blanks 22
    ∷ text "*" ∷ byte 0x02 ∷ zeros 6 ∷ text "aaaba" ∷ blanks 19 ∷ text "]" ∷ byte 0x03 ∷ zeros 6
    ∷ byte 0x01 ∷ byte 0x01 ∷ byte 0x03 ∷ zeros 5 ∷ text "aaa" ∷ zeros 53 ∷ text "aabab" ∷ blanks 19 ∷ byte 0xB4
    ∷ byte 0x9F ∷ text "<" ∷ byte 0xE1 ∷ text "S" ∷ byte 0xC5 ∷ byte 0xF0 ∷ byte 0xEA ∷ zeros 32 ∷ []

abbrev pub file31 : Parts
file31 =
    text "TKF" ∷ byte 0x03 ∷ byte 0x00 ∷ byte 0x03 ∷ byte 0x03 ∷ zeros 9
    ∷ byte 0x01 ∷ byte 0x03 ∷ byte 0x00 ∷ byte 0x01 ∷ zeros 28 ∷ text "a" ∷ zeros 31 ∷ text "aab" ∷ blanks 21
    ∷ byte 0xA2 ∷ zeros 7 ∷ byte 0x8C ∷ byte 0xEA ∷ byte 0x18 ∷ byte 0x07 ∷ text "<" ∷ byte 0xC5 ∷ byte 0x82
    ∷ text "Qab" ∷ blanks 22 ∷ text "j" ∷ byte 0x02 ∷ zeros 6 ∷ byte 0x04 ∷ zeros 7 ∷ text "aba" ∷ blanks 21 ∷ byte 0xAF
    ∷ byte 0x8B ∷ byte 0x9B ∷ byte 0xB3 ∷ text "|" ∷ byte 0xEF ∷ byte 0xDC ∷ byte 0xD4 ∷ byte 0x04 ∷ zeros 7
    ∷ byte 0x01 ∷ byte 0x03 ∷ byte 0x01 ∷ zeros 5 ∷ text "a" ∷ zeros 55 ∷ text "b" ∷ blanks 23 ∷ byte 0x87 ∷ byte 0x03
    ∷ zeros 6 ∷ byte 0x05 ∷ zeros 7 ∷ text "b" ∷ byte 0x20 ∷ text "b" ∷ blanks 21 ∷ text "]" ∷ byte 0xF2 ∷ text "w"
    ∷ byte 0x9A ∷ byte 0x14 ∷ byte 0xCE ∷ byte 0xCA ∷ text "7" ∷ byte 0xFF ∷ byte 0xFF ∷ byte 0xFF ∷ byte 0xFF
    ∷ byte 0xFF ∷ byte 0xFF ∷ byte 0xFF ∷ byte 0xFF ∷ text "bab" ∷ blanks 21 ∷ byte 0xFF ∷ byte 0xFF ∷ byte 0xFF
    ∷ byte 0xFF ∷ byte 0xFF ∷ byte 0xFF ∷ byte 0xFF ∷ byte 0xFF ∷ byte 0xFE ∷ byte 0xFF ∷ byte 0xFF ∷ byte 0xFF
    ∷ byte 0xFF ∷ byte 0xFF ∷ byte 0xFF ∷ byte 0xFF
    ∷ byte 0x01 ∷ byte 0x02 ∷ byte 0x01 ∷ byte 0x01 ∷ zeros 4 ∷ text "!" ∷ zeros 23 ∷ text "a" ∷ zeros 31 ∷ text "aab"
    ∷ blanks 21 ∷ byte 0xA2 ∷ zeros 7 ∷ byte 0x8C ∷ byte 0xEA ∷ byte 0x18 ∷ byte 0x07 ∷ text "<" ∷ byte 0xC5 ∷ byte 0x82
    ∷ text "Qab" ∷ blanks 22 ∷ text "j" ∷ byte 0x02 ∷ zeros 6 ∷ byte 0x04 ∷ zeros 47 ∷ []

abbrev pub file32 : Parts
file32 =
    text "TKF" ∷ byte 0x01 ∷ byte 0x00 ∷ byte 0x02 ∷ byte 0x04 ∷ zeros 9
    ∷ byte 0x01 ∷ byte 0x02 ∷ byte 0x00 ∷ byte 0x03 ∷ zeros 28 ∷ text "trr" ∷ zeros 29 ∷ text "t" ∷ blanks 23 ∷ text ")"
    ∷ byte 0x03 ∷ zeros 6 ∷ text "trr" ∷ blanks 21 ∷ byte 0xE6 ∷ zeros 7
    ∷ byte 0x01 ∷ byte 0x01 ∷ byte 0x02 ∷ zeros 5 ∷ text "tr" ∷ zeros 54 ∷ text "tssr" ∷ blanks 20 ∷ zeros 40
    ∷ byte 0x01 ∷ byte 0x01 ∷ byte 0x03 ∷ byte 0x02 ∷ zeros 4 ∷ text "trr" ∷ zeros 21 ∷ text "tr" ∷ zeros 30
    ∷ text "trt" ∷ blanks 21 ∷ zeros 40
    ∷ byte 0x01 ∷ byte 0x01 ∷ byte 0x04 ∷ byte 0x03 ∷ zeros 4 ∷ text "trr" ∷ byte 0x20 ∷ zeros 20 ∷ text "trr"
    ∷ zeros 29 ∷ text "trr&" ∷ blanks 20 ∷ text "p" ∷ byte 0xFA ∷ byte 0xF1 ∷ byte 0xEF ∷ byte 0xEC ∷ byte 0xAC
    ∷ byte 0x82 ∷ text "^" ∷ zeros 32 ∷ []

abbrev pub file33 : Parts
file33 =
    text "TKF" ∷ byte 0x01 ∷ byte 0x00 ∷ byte 0x02 ∷ byte 0x03 ∷ zeros 9
    ∷ byte 0x01 ∷ byte 0x02 ∷ byte 0x00 ∷ byte 0x02 ∷ zeros 28 ∷ text "}!" ∷ zeros 30 ∷ text "}" ∷ blanks 23 ∷ byte 0x16
    ∷ byte 0x09 ∷ byte 0xB5 ∷ byte 0xDF ∷ byte 0xE3 ∷ text "xd" ∷ byte 0xC4 ∷ text "}!" ∷ blanks 22 ∷ text "W"
    ∷ byte 0x03 ∷ zeros 6
    ∷ byte 0x01 ∷ byte 0x01 ∷ byte 0x02 ∷ zeros 5 ∷ text "}!" ∷ zeros 54 ∷ text "}}}!" ∷ blanks 20 ∷ text "$"
    ∷ byte 0xFE ∷ text "o1" ∷ byte 0xCE ∷ text "g" ∷ byte 0xF4 ∷ byte 0xCC ∷ zeros 32
    ∷ byte 0x01 ∷ byte 0x02 ∷ byte 0x03 ∷ byte 0x02 ∷ zeros 4 ∷ text "}!" ∷ byte 0x20 ∷ zeros 21 ∷ text "}!" ∷ zeros 30
    ∷ text "}!$" ∷ blanks 21 ∷ zeros 8 ∷ text "}!D" ∷ blanks 21 ∷ byte 0xFF ∷ byte 0xFF ∷ byte 0xFF ∷ byte 0xFF
    ∷ byte 0xFF ∷ byte 0xFF ∷ byte 0xFF ∷ byte 0xFF ∷ []

abbrev pub file34 : Parts
file34 =
    []

abbrev pub file35 : Parts
file35 =
    text "TKF" ∷ byte 0x03 ∷ byte 0x00 ∷ byte 0x03 ∷ byte 0x04 ∷ zeros 9
    ∷ byte 0x01 ∷ byte 0x03 ∷ byte 0x00 ∷ byte 0x01 ∷ zeros 28 ∷ text "x" ∷ zeros 31 ∷ text "x" ∷ blanks 23 ∷ byte 0x00
    ∷ byte 0x01 ∷ zeros 14 ∷ text "xy" ∷ blanks 22 ∷ byte 0xDD ∷ byte 0x0C ∷ text "u" ∷ byte 0x99 ∷ text ">" ∷ byte 0x11
    ∷ byte 0xEA ∷ byte 0x06 ∷ zeros 8 ∷ text "xz" ∷ blanks 22 ∷ text "H" ∷ zeros 7 ∷ byte 0x05 ∷ zeros 7
    ∷ byte 0x01 ∷ byte 0x02 ∷ byte 0x01 ∷ zeros 5 ∷ text "x" ∷ zeros 55 ∷ text "y" ∷ blanks 23 ∷ byte 0x83 ∷ text "?u"
    ∷ byte 0xC7 ∷ text "i&y" ∷ byte 0x08 ∷ byte 0x04 ∷ zeros 7 ∷ text "yzz" ∷ blanks 21 ∷ byte 0x8A ∷ byte 0x03
    ∷ zeros 6 ∷ byte 0x05 ∷ zeros 47
    ∷ zeros 184
    ∷ byte 0x01 ∷ byte 0x01 ∷ byte 0x04 ∷ zeros 5 ∷ text "y" ∷ blanks 3 ∷ zeros 52 ∷ text "yzz" ∷ blanks 21 ∷ byte 0x8A
    ∷ byte 0x03 ∷ zeros 6 ∷ byte 0x05 ∷ zeros 87 ∷ []

abbrev pub file36 : Parts
file36 =
    text "TKF" ∷ byte 0x03 ∷ byte 0x00 ∷ byte 0x03 ∷ byte 0x04 ∷ zeros 9
    ∷ byte 0x01 ∷ byte 0x01 ∷ byte 0x00 ∷ byte 0x02 ∷ zeros 28 ∷ text "}" ∷ byte 0x20 ∷ zeros 30 ∷ text "}" ∷ blanks 23
    ∷ byte 0xBA ∷ byte 0x01 ∷ zeros 6 ∷ byte 0xFE ∷ byte 0xFF ∷ byte 0xFF ∷ byte 0xFF ∷ byte 0xFF ∷ byte 0xFF
    ∷ byte 0xFF ∷ byte 0xFF ∷ zeros 80
    ∷ byte 0x01 ∷ byte 0x03 ∷ byte 0x02 ∷ zeros 5 ∷ text "}" ∷ byte 0x20 ∷ zeros 54 ∷ text "}}" ∷ blanks 22 ∷ byte 0x10
    ∷ byte 0x02 ∷ zeros 6 ∷ byte 0x02 ∷ zeros 7 ∷ text "}}!!" ∷ blanks 20 ∷ text "p" ∷ byte 0x01 ∷ zeros 6 ∷ byte 0x05
    ∷ zeros 7 ∷ text "}}}" ∷ blanks 21 ∷ byte 0xBB ∷ byte 0x01 ∷ zeros 6 ∷ byte 0x05 ∷ zeros 7
    ∷ zeros 81 ∷ byte 0x01 ∷ zeros 102
    ∷ zeros 184 ∷ []

abbrev pub file37 : Parts
file37 =
    text "TKF" ∷ byte 0x03 ∷ byte 0x00 ∷ byte 0x02 ∷ byte 0x04 ∷ zeros 9
    ∷ byte 0x01 ∷ byte 0x01 ∷ byte 0x00 ∷ byte 0x05 ∷ zeros 28 ∷ text "bab" ∷ blanks 2 ∷ zeros 27 ∷ text "bab"
    ∷ blanks 21 ∷ byte 0xF6 ∷ byte 0x01 ∷ zeros 6 ∷ byte 0xFE ∷ byte 0xFF ∷ byte 0xFF ∷ byte 0xFF ∷ byte 0xFF
    ∷ byte 0xFF ∷ byte 0xFF ∷ byte 0xFF ∷ zeros 40
    ∷ byte 0x01 ∷ byte 0x02 ∷ byte 0x05 ∷ zeros 5 ∷ text "bab" ∷ blanks 2 ∷ zeros 51 ∷ text "babab" ∷ blanks 19
    ∷ byte 0x01 ∷ byte 0x03 ∷ zeros 6 ∷ byte 0x04 ∷ zeros 7 ∷ text "bab" ∷ byte 0x20 ∷ text "b" ∷ blanks 19 ∷ byte 0xE8
    ∷ byte 0x01 ∷ zeros 6 ∷ byte 0x04 ∷ zeros 7
    ∷ zeros 144
    ∷ zeros 144 ∷ []

abbrev pub file38 : Parts
file38 =
    text "TKF" ∷ byte 0x03 ∷ byte 0x00 ∷ byte 0x02 ∷ byte 0x03 ∷ zeros 9
    ∷ byte 0x01 ∷ byte 0x01 ∷ byte 0x00 ∷ byte 0x01 ∷ zeros 28 ∷ text "a" ∷ zeros 31 ∷ text "a" ∷ blanks 23 ∷ byte 0xAB
    ∷ zeros 7 ∷ byte 0x01 ∷ zeros 47
    ∷ byte 0x01 ∷ byte 0x01 ∷ byte 0x01 ∷ zeros 5 ∷ text "a" ∷ zeros 55 ∷ text "b" ∷ blanks 23 ∷ byte 0xA4 ∷ byte 0x02
    ∷ zeros 6 ∷ byte 0x05 ∷ zeros 47
    ∷ byte 0x01 ∷ byte 0x02 ∷ byte 0x03 ∷ zeros 5 ∷ text "b" ∷ blanks 2 ∷ zeros 53 ∷ text "b(" ∷ blanks 22 ∷ text ";"
    ∷ byte 0xDB ∷ byte 0x7E ∷ text ".*w" ∷ byte 0x8A ∷ byte 0x7F ∷ byte 0x02 ∷ zeros 7 ∷ text "bb" ∷ blanks 22
    ∷ byte 0xCC ∷ byte 0x02 ∷ byte 0x07 ∷ text "`" ∷ byte 0x0D ∷ byte 0xEE ∷ byte 0x1B ∷ text "P" ∷ byte 0x01 ∷ zeros 7
    ∷ []

abbrev pub file39 : Parts
file39 =
    text "TKF" ∷ byte 0x03 ∷ byte 0x00 ∷ byte 0x02 ∷ byte 0x03 ∷ zeros 9
    ∷ byte 0x01 ∷ byte 0x02 ∷ byte 0x00 ∷ byte 0x02 ∷ zeros 28 ∷ text "zy" ∷ zeros 30 ∷ text "xxy" ∷ blanks 21
    ∷ text "p" ∷ byte 0xC9 ∷ byte 0x01 ∷ byte 0x8E ∷ byte 0xC0 ∷ text "K" ∷ byte 0x11 ∷ text "D" ∷ byte 0x02 ∷ zeros 7
    ∷ text "yx" ∷ blanks 22 ∷ byte 0xC7 ∷ byte 0x01 ∷ zeros 14
    ∷ byte 0x01 ∷ byte 0x01 ∷ byte 0x02 ∷ zeros 5 ∷ text "zy" ∷ zeros 54 ∷ text "zxz" ∷ blanks 21 ∷ byte 0xB2 ∷ zeros 7
    ∷ byte 0xFF ∷ byte 0xFF ∷ byte 0xFF ∷ byte 0xFF ∷ byte 0xFF ∷ byte 0xFF ∷ byte 0xFF ∷ byte 0xFF ∷ zeros 40
    ∷ zeros 144 ∷ []

abbrev pub file40 : Parts
file40 =
    text "TKF" ∷ byte 0x02 ∷ byte 0x00 ∷ byte 0x03 ∷ byte 0x02 ∷ zeros 9
    ∷ byte 0x01 ∷ byte 0x03 ∷ byte 0x00 ∷ byte 0x05 ∷ zeros 28 ∷ text "bbaaa" ∷ zeros 27 ∷ text "bbaa" ∷ blanks 18
    ∷ byte 0xAD ∷ byte 0x20 ∷ text "." ∷ byte 0x01 ∷ zeros 6 ∷ text "bbaaaa" ∷ blanks 18 ∷ text "e" ∷ byte 0xDA
    ∷ text ")" ∷ byte 0x16 ∷ byte 0xD4 ∷ byte 0x0B ∷ text "4" ∷ byte 0xE7 ∷ text "bbaaabb" ∷ blanks 17 ∷ byte 0xC0
    ∷ text "`" ∷ byte 0xB1 ∷ byte 0x84 ∷ byte 0xB3 ∷ byte 0xBA ∷ byte 0xC6 ∷ byte 0xF2
    ∷ byte 0x01 ∷ byte 0x02 ∷ byte 0x05 ∷ zeros 5 ∷ text "bbaaa" ∷ zeros 51 ∷ text "bbaab" ∷ blanks 19 ∷ text "t"
    ∷ zeros 7 ∷ text "bbaabaa" ∷ blanks 17 ∷ byte 0xC9 ∷ byte 0x01 ∷ zeros 38 ∷ []

abbrev pub file41 : Parts
file41 =
    text "TKF" ∷ byte 0x03 ∷ byte 0x00 ∷ byte 0x03 ∷ byte 0x03 ∷ zeros 9
    ∷ byte 0x01 ∷ byte 0x02 ∷ byte 0x00 ∷ byte 0x03 ∷ zeros 28 ∷ text "bb" ∷ byte 0x20 ∷ zeros 29 ∷ text "bb" ∷ blanks 9
    ∷ byte 0xA0 ∷ blanks 12 ∷ byte 0xFF ∷ byte 0xFF ∷ byte 0xFF ∷ byte 0xFF ∷ byte 0xFF ∷ byte 0xFF ∷ byte 0xFF
    ∷ byte 0xFF ∷ byte 0x04 ∷ zeros 7 ∷ text "bb" ∷ byte 0x20 ∷ text "b" ∷ blanks 20 ∷ byte 0xD0 ∷ byte 0xA6 ∷ text "A"
    ∷ byte 0x09 ∷ byte 0xA9 ∷ byte 0x19 ∷ text "L" ∷ byte 0x94 ∷ byte 0x03 ∷ zeros 47
    ∷ byte 0x01 ∷ byte 0x01 ∷ byte 0x03 ∷ byte 0x03 ∷ zeros 4 ∷ text "bb" ∷ byte 0x20 ∷ zeros 21 ∷ text "bba" ∷ zeros 29
    ∷ text "bba" ∷ blanks 21 ∷ byte 0xFF ∷ byte 0xFF ∷ byte 0xFF ∷ byte 0xFF ∷ byte 0xFF ∷ byte 0xFF ∷ byte 0xFF
    ∷ byte 0xFF ∷ byte 0xB4 ∷ byte 0xCD ∷ text "}" ∷ byte 0xCF ∷ text "o]AL" ∷ zeros 80
    ∷ byte 0x01 ∷ byte 0x03 ∷ byte 0x03 ∷ zeros 5 ∷ text "bba" ∷ zeros 53 ∷ text "bbb" ∷ blanks 21 ∷ text "o"
    ∷ byte 0x01 ∷ zeros 14 ∷ text "bbb" ∷ byte 0x20 ∷ text "b" ∷ blanks 19 ∷ byte 0x0F ∷ byte 0x98 ∷ text "x7"
    ∷ byte 0xB3 ∷ byte 0xE5 ∷ byte 0x8C ∷ byte 0xEC ∷ byte 0x03 ∷ zeros 7 ∷ text "bbbba" ∷ blanks 19 ∷ byte 0xCD
    ∷ zeros 15 ∷ []

abbrev pub file42 : Parts
file42 =
    text "TKF" ∷ byte 0x02 ∷ byte 0x00 ∷ byte 0x03 ∷ byte 0x03 ∷ zeros 9
    ∷ byte 0x01 ∷ byte 0x01 ∷ byte 0x00 ∷ byte 0x01 ∷ zeros 28 ∷ text "!" ∷ zeros 31 ∷ text "!}" ∷ blanks 22 ∷ byte 0xED
    ∷ byte 0xE9 ∷ byte 0x81 ∷ byte 0x05 ∷ byte 0xC2 ∷ byte 0x1C ∷ byte 0x92 ∷ byte 0xA6 ∷ zeros 64
    ∷ byte 0x01 ∷ byte 0x03 ∷ byte 0x01 ∷ zeros 5 ∷ text "!" ∷ zeros 55 ∷ text "}" ∷ blanks 23 ∷ byte 0xAC ∷ byte 0x03
    ∷ zeros 6 ∷ text "}!!" ∷ blanks 8 ∷ byte 0x1D ∷ blanks 12 ∷ byte 0x8D ∷ byte 0x03 ∷ zeros 6 ∷ text "}}" ∷ blanks 22
    ∷ zeros 8
    ∷ zeros 160 ∷ []

abbrev pub file43 : Parts
file43 =
    text "TKF" ∷ byte 0x03 ∷ byte 0x01 ∷ byte 0x02 ∷ byte 0x04 ∷ zeros 9
    ∷ byte 0x01 ∷ byte 0x01 ∷ byte 0x00 ∷ byte 0x02 ∷ zeros 28 ∷ text "!" ∷ byte 0x20 ∷ zeros 30 ∷ text "!" ∷ blanks 23
    ∷ text "c" ∷ byte 0x01 ∷ zeros 54 ∷ byte 0x01 ∷ byte 0x01 ∷ byte 0x01 ∷ zeros 5 ∷ text "!" ∷ zeros 55 ∷ text "}}}"
    ∷ blanks 21 ∷ byte 0xC2 ∷ byte 0x01 ∷ zeros 6 ∷ byte 0x05 ∷ zeros 47 ∷ byte 0x01 ∷ byte 0x02 ∷ byte 0x02 ∷ byte 0x01
    ∷ zeros 4 ∷ text "!!" ∷ zeros 22 ∷ text "!" ∷ zeros 31 ∷ text "!}" ∷ blanks 22 ∷ text ":" ∷ zeros 7 ∷ byte 0x02
    ∷ zeros 7 ∷ text "!}}" ∷ blanks 21 ∷ byte 0x0F ∷ byte 0x02 ∷ zeros 6 ∷ byte 0x04 ∷ zeros 7 ∷ byte 0x01 ∷ byte 0x02
    ∷ byte 0x02 ∷ byte 0x02 ∷ zeros 4 ∷ text "!" ∷ byte 0x20 ∷ zeros 22 ∷ text "!!" ∷ zeros 30 ∷ text "!!" ∷ blanks 22
    ∷ byte 0x1F ∷ text "7O" ∷ byte 0xBA ∷ text "DGT" ∷ byte 0xE6 ∷ byte 0x92 ∷ text "W,w" ∷ byte 0xD4 ∷ byte 0x8D
    ∷ byte 0xEF ∷ text "Q!!}" ∷ blanks 21 ∷ byte 0xDC ∷ byte 0x03 ∷ zeros 6 ∷ byte 0x02 ∷ zeros 7 ∷ []

abbrev pub file44 : Parts
file44 =
    text "TKF" ∷ byte 0x04 ∷ byte 0x00 ∷ byte 0x02 ∷ byte 0x03 ∷ zeros 9
    ∷ byte 0x01 ∷ byte 0x01 ∷ byte 0x00 ∷ byte 0x03 ∷ zeros 28 ∷ text "}}" ∷ byte 0x20 ∷ zeros 29 ∷ text "}}"
    ∷ blanks 22 ∷ byte 0x9D ∷ byte 0x03 ∷ zeros 6 ∷ byte 0x04 ∷ zeros 47 ∷ byte 0x01 ∷ byte 0x01 ∷ byte 0x03 ∷ byte 0x04
    ∷ zeros 4 ∷ text "}}" ∷ byte 0x20 ∷ zeros 21 ∷ text "}}" ∷ byte 0x20 ∷ text "!" ∷ zeros 28 ∷ text "}}!!" ∷ blanks 20
    ∷ byte 0x06 ∷ byte 0x03 ∷ zeros 6 ∷ byte 0x03 ∷ zeros 47 ∷ byte 0x01 ∷ byte 0x02 ∷ byte 0x04 ∷ zeros 5 ∷ text "}}"
    ∷ byte 0x20 ∷ text "!" ∷ zeros 52 ∷ text "}}!!}}}}}}}}!!!!}}!" ∷ blanks 5 ∷ text "$" ∷ byte 0x03 ∷ zeros 6
    ∷ byte 0x04 ∷ zeros 7 ∷ text "}}!!}}}}}}}}!!!!}}!}!!" ∷ blanks 2 ∷ text "W" ∷ zeros 7 ∷ byte 0x05 ∷ zeros 7 ∷ []

abbrev pub file45 : Parts
file45 =
    text "TKF" ∷ byte 0x01 ∷ byte 0x00 ∷ byte 0x03 ∷ byte 0x02 ∷ zeros 9
    ∷ byte 0x01 ∷ byte 0x03 ∷ zeros 62 ∷ text "a" ∷ blanks 23 ∷ byte 0x01 ∷ zeros 7 ∷ text "c" ∷ blanks 23 ∷ byte 0x01
    ∷ zeros 7 ∷ text "d" ∷ blanks 23 ∷ byte 0x01 ∷ zeros 7
    ∷ byte 0x01 ∷ byte 0x02 ∷ byte 0x01 ∷ zeros 5 ∷ text "b" ∷ zeros 55 ∷ text "c" ∷ blanks 23 ∷ byte 0x01 ∷ zeros 7
    ∷ text "d" ∷ blanks 23 ∷ byte 0x01 ∷ zeros 39 ∷ []

abbrev pub file46 : Parts
file46 =
    text "TKF" ∷ byte 0x01 ∷ byte 0x00 ∷ byte 0x03 ∷ byte 0x02 ∷ zeros 9
    ∷ byte 0x01 ∷ byte 0x03 ∷ zeros 62 ∷ text "a" ∷ blanks 23 ∷ byte 0x01 ∷ zeros 7 ∷ text "c" ∷ blanks 23 ∷ byte 0x01
    ∷ zeros 7 ∷ text "d" ∷ blanks 23 ∷ byte 0x01 ∷ zeros 7
    ∷ byte 0x01 ∷ byte 0x03 ∷ byte 0x01 ∷ zeros 5 ∷ text "b" ∷ zeros 55 ∷ text "c" ∷ blanks 23 ∷ byte 0x01 ∷ zeros 7
    ∷ text "d" ∷ blanks 23 ∷ byte 0x01 ∷ zeros 7 ∷ text "e" ∷ blanks 23 ∷ byte 0x01 ∷ zeros 7 ∷ []

abbrev pub file47 : Parts
file47 =
    text "TKF" ∷ byte 0x01 ∷ byte 0x00 ∷ byte 0x03 ∷ byte 0x02 ∷ zeros 9
    ∷ byte 0x01 ∷ byte 0x03 ∷ zeros 62 ∷ text "a" ∷ blanks 23 ∷ byte 0x01 ∷ zeros 7 ∷ text "c" ∷ blanks 23 ∷ byte 0x01
    ∷ zeros 7 ∷ text "d" ∷ blanks 23 ∷ byte 0x01 ∷ zeros 7
    ∷ byte 0x01 ∷ byte 0x03 ∷ byte 0x01 ∷ zeros 5 ∷ text "b" ∷ zeros 55 ∷ text "b" ∷ blanks 23 ∷ byte 0x02 ∷ zeros 7
    ∷ text "c" ∷ blanks 23 ∷ byte 0x01 ∷ zeros 7 ∷ text "d" ∷ blanks 23 ∷ byte 0x01 ∷ zeros 7 ∷ []

abbrev pub file48 : Parts
file48 =
    text "TKF" ∷ byte 0x01 ∷ byte 0x00 ∷ byte 0x03 ∷ byte 0x02 ∷ zeros 9
    ∷ byte 0x01 ∷ byte 0x03 ∷ zeros 62 ∷ text "a" ∷ blanks 23 ∷ byte 0x01 ∷ zeros 7 ∷ text "b" ∷ blanks 23 ∷ byte 0x01
    ∷ zeros 7 ∷ text "d" ∷ blanks 23 ∷ byte 0x01 ∷ zeros 7
    ∷ byte 0x01 ∷ byte 0x01 ∷ byte 0x01 ∷ zeros 5 ∷ text "b" ∷ zeros 55 ∷ text "d" ∷ blanks 23 ∷ byte 0x01 ∷ zeros 71
    ∷ []

abbrev pub file49 : Parts
file49 =
    text "TKF" ∷ byte 0x01 ∷ byte 0x00 ∷ byte 0x03 ∷ byte 0x02 ∷ zeros 9
    ∷ byte 0x01 ∷ byte 0x03 ∷ zeros 62 ∷ text "B" ∷ blanks 23 ∷ byte 0x01 ∷ zeros 7 ∷ text "a" ∷ blanks 23 ∷ byte 0x01
    ∷ zeros 7 ∷ text "b" ∷ blanks 23 ∷ byte 0x01 ∷ zeros 7
    ∷ byte 0x01 ∷ byte 0x00 ∷ byte 0x01 ∷ zeros 5 ∷ text "b" ∷ zeros 151 ∷ []

abbrev pub file50 : Parts
file50 =
    text "TKF" ∷ byte 0x01 ∷ byte 0x00 ∷ byte 0x03 ∷ byte 0x02 ∷ zeros 9
    ∷ byte 0x01 ∷ byte 0x03 ∷ zeros 62 ∷ text "a" ∷ blanks 23 ∷ byte 0x01 ∷ zeros 7 ∷ text "c" ∷ blanks 23 ∷ byte 0x01
    ∷ zeros 7 ∷ text "d" ∷ blanks 23 ∷ byte 0x01 ∷ zeros 7
    ∷ byte 0x01 ∷ byte 0x01 ∷ byte 0x01 ∷ zeros 5 ∷ text "b" ∷ zeros 55 ∷ text "c" ∷ blanks 23 ∷ byte 0x01 ∷ zeros 71
    ∷ []

abbrev pub file51 : Parts
file51 =
    text "TKF" ∷ byte 0x01 ∷ byte 0x00 ∷ byte 0x03 ∷ byte 0x02 ∷ zeros 9
    ∷ byte 0x01 ∷ byte 0x03 ∷ zeros 62 ∷ text "a" ∷ blanks 23 ∷ byte 0x01 ∷ zeros 7 ∷ text "c" ∷ blanks 23 ∷ byte 0x01
    ∷ zeros 7 ∷ text "d" ∷ blanks 23 ∷ byte 0x01 ∷ zeros 7
    ∷ byte 0x01 ∷ byte 0x02 ∷ byte 0x01 ∷ zeros 5 ∷ text "b" ∷ zeros 55 ∷ text "c" ∷ blanks 23 ∷ byte 0x01 ∷ zeros 7
    ∷ text "d" ∷ blanks 23 ∷ byte 0x02 ∷ zeros 39 ∷ []

abbrev pub file52 : Parts
file52 =
    text "TKF" ∷ byte 0x01 ∷ byte 0x00 ∷ byte 0x03 ∷ byte 0x02 ∷ zeros 9
    ∷ byte 0x01 ∷ byte 0x03 ∷ zeros 62 ∷ text "a" ∷ blanks 23 ∷ byte 0x01 ∷ zeros 7 ∷ text "c" ∷ blanks 23 ∷ byte 0x01
    ∷ zeros 7 ∷ text "d" ∷ blanks 23 ∷ byte 0x01 ∷ zeros 7
    ∷ byte 0x01 ∷ byte 0x02 ∷ byte 0x01 ∷ zeros 5 ∷ text "b" ∷ zeros 55 ∷ text "c" ∷ blanks 23 ∷ byte 0x01 ∷ zeros 7
    ∷ text "e" ∷ blanks 23 ∷ byte 0x01 ∷ zeros 39 ∷ []

abbrev pub file53 : Parts
file53 =
    text "TKF" ∷ byte 0x01 ∷ byte 0x00 ∷ byte 0x03 ∷ byte 0x02 ∷ zeros 9
    ∷ byte 0x01 ∷ byte 0x03 ∷ zeros 62 ∷ text "B" ∷ blanks 23 ∷ byte 0x01 ∷ zeros 7 ∷ text "a" ∷ blanks 23 ∷ byte 0x01
    ∷ zeros 7 ∷ text "b" ∷ blanks 23 ∷ byte 0x01 ∷ zeros 7
    ∷ byte 0x01 ∷ byte 0x02 ∷ byte 0x01 ∷ zeros 5 ∷ text "b" ∷ zeros 55 ∷ text "d" ∷ blanks 23 ∷ byte 0x01 ∷ zeros 7
    ∷ text "e" ∷ blanks 23 ∷ byte 0x01 ∷ zeros 39 ∷ []

abbrev pub file54 : Parts
file54 =
    text "TKF" ∷ byte 0x01 ∷ byte 0x00 ∷ byte 0x03 ∷ byte 0x02 ∷ zeros 9
    ∷ byte 0x01 ∷ byte 0x02 ∷ zeros 62 ∷ text "a" ∷ blanks 23 ∷ byte 0x01 ∷ zeros 7 ∷ text "c" ∷ blanks 23 ∷ byte 0x01
    ∷ zeros 39
    ∷ byte 0x01 ∷ byte 0x01 ∷ byte 0x01 ∷ zeros 5 ∷ text "b" ∷ zeros 55 ∷ text "c" ∷ blanks 23 ∷ byte 0x01 ∷ zeros 71
    ∷ []

abbrev pub file55 : Parts
file55 =
    text "TKF" ∷ byte 0x01 ∷ byte 0x00 ∷ byte 0x03 ∷ byte 0x02 ∷ zeros 9
    ∷ byte 0x01 ∷ byte 0x01 ∷ zeros 62 ∷ text "a" ∷ blanks 23 ∷ byte 0x01 ∷ zeros 71
    ∷ byte 0x01 ∷ byte 0x00 ∷ byte 0x01 ∷ zeros 5 ∷ text "b" ∷ zeros 151 ∷ []

abbrev pub file56 : Parts
file56 =
    text "TKF" ∷ byte 0x01 ∷ byte 0x00 ∷ byte 0x03 ∷ byte 0x02 ∷ zeros 9
    ∷ byte 0x01 ∷ zeros 159
    ∷ byte 0x01 ∷ byte 0x00 ∷ byte 0x01 ∷ zeros 5 ∷ text "b" ∷ zeros 151 ∷ []

abbrev pub file57 : Parts
file57 =
    text "TKF" ∷ byte 0x01 ∷ byte 0x00 ∷ byte 0x03 ∷ byte 0x02 ∷ zeros 9
    ∷ byte 0x01 ∷ zeros 159
    ∷ byte 0x01 ∷ byte 0x01 ∷ byte 0x01 ∷ zeros 5 ∷ text "b" ∷ zeros 55 ∷ text "c" ∷ blanks 23 ∷ byte 0x01 ∷ zeros 71
    ∷ []

abbrev pub file58 : Parts
file58 =
    text "TKF" ∷ byte 0x01 ∷ byte 0x00 ∷ byte 0x03 ∷ byte 0x02 ∷ zeros 9
    ∷ byte 0x01 ∷ byte 0x01 ∷ zeros 62 ∷ text "c" ∷ blanks 23 ∷ byte 0x01 ∷ zeros 71
    ∷ byte 0x01 ∷ byte 0x00 ∷ byte 0x01 ∷ zeros 5 ∷ text "b" ∷ zeros 151 ∷ []

abbrev pub file59 : Parts
file59 =
    text "TKF" ∷ byte 0x01 ∷ byte 0x00 ∷ byte 0x03 ∷ byte 0x02 ∷ zeros 9
    ∷ byte 0x01 ∷ byte 0x01 ∷ zeros 62 ∷ text "c" ∷ blanks 23 ∷ byte 0x01 ∷ zeros 71
    ∷ byte 0x01 ∷ byte 0x01 ∷ byte 0x01 ∷ zeros 5 ∷ text "b" ∷ zeros 55 ∷ text "d" ∷ blanks 23 ∷ byte 0x01 ∷ zeros 71
    ∷ []

abbrev pub file60 : Parts
file60 =
    text "TKF" ∷ byte 0x01 ∷ byte 0x00 ∷ byte 0x03 ∷ byte 0x02 ∷ zeros 9
    ∷ byte 0x01 ∷ byte 0x03 ∷ zeros 62 ∷ text "a" ∷ blanks 23 ∷ byte 0x01 ∷ zeros 7 ∷ text "c" ∷ blanks 23 ∷ byte 0x01
    ∷ zeros 7 ∷ text "d" ∷ blanks 23 ∷ byte 0x01 ∷ zeros 7
    ∷ byte 0x01 ∷ byte 0x03 ∷ byte 0x01 ∷ zeros 5 ∷ text "b" ∷ zeros 55 ∷ text "c" ∷ blanks 23 ∷ byte 0x01 ∷ zeros 7
    ∷ text "c" ∷ blanks 23 ∷ byte 0x02 ∷ zeros 7 ∷ text "d" ∷ blanks 23 ∷ byte 0x01 ∷ zeros 7 ∷ []

abbrev pub file61 : Parts
file61 =
    text "TKF" ∷ byte 0x01 ∷ byte 0x00 ∷ byte 0x03 ∷ byte 0x03 ∷ zeros 9
    ∷ byte 0x01 ∷ byte 0x02 ∷ byte 0x01 ∷ zeros 5 ∷ text "b" ∷ zeros 55 ∷ text "c" ∷ blanks 23 ∷ byte 0x01 ∷ zeros 7
    ∷ text "d" ∷ blanks 23 ∷ byte 0x01 ∷ zeros 39
    ∷ byte 0x01 ∷ byte 0x03 ∷ zeros 62 ∷ text "a" ∷ blanks 23 ∷ byte 0x01 ∷ zeros 7 ∷ text "c" ∷ blanks 23 ∷ byte 0x01
    ∷ zeros 7 ∷ text "d" ∷ blanks 23 ∷ byte 0x01 ∷ zeros 7
    ∷ zeros 160 ∷ []

abbrev pub file62 : Parts
file62 =
    text "TKF" ∷ byte 0x01 ∷ byte 0x00 ∷ byte 0x03 ∷ byte 0x02 ∷ zeros 9
    ∷ byte 0x01 ∷ byte 0x03 ∷ zeros 62 ∷ text "a" ∷ blanks 23 ∷ byte 0x01 ∷ zeros 7 ∷ text "c" ∷ blanks 23 ∷ byte 0x01
    ∷ zeros 7 ∷ text "d" ∷ blanks 23 ∷ byte 0x01 ∷ zeros 7
    ∷ byte 0x01 ∷ byte 0x03 ∷ zeros 62 ∷ text "a" ∷ blanks 23 ∷ byte 0x01 ∷ zeros 7 ∷ text "c" ∷ blanks 23 ∷ byte 0x01
    ∷ zeros 7 ∷ text "d" ∷ blanks 23 ∷ byte 0x01 ∷ zeros 7 ∷ []

abbrev pub file63 : Parts
file63 =
    text "TKF" ∷ byte 0x01 ∷ byte 0x00 ∷ byte 0x03 ∷ byte 0x02 ∷ zeros 9
    ∷ byte 0x01 ∷ byte 0x02 ∷ byte 0x01 ∷ zeros 5 ∷ text "b" ∷ zeros 55 ∷ text "c" ∷ blanks 23 ∷ byte 0x01 ∷ zeros 7
    ∷ text "d" ∷ blanks 23 ∷ byte 0x01 ∷ zeros 39
    ∷ zeros 160 ∷ []

abbrev pub file64 : Parts
file64 =
    text "TKF" ∷ byte 0x01 ∷ byte 0x00 ∷ byte 0x03 ∷ byte 0x02 ∷ zeros 9
    ∷ zeros 160
    ∷ zeros 160 ∷ []

abbrev pub file65 : Parts
file65 =
    text "UKF" ∷ byte 0x01 ∷ byte 0x00 ∷ byte 0x02 ∷ byte 0x02 ∷ zeros 9
    ∷ byte 0x01 ∷ zeros 255 ∷ []

abbrev pub file66 : Parts
file66 =
    text "TLF" ∷ byte 0x01 ∷ byte 0x00 ∷ byte 0x02 ∷ byte 0x02 ∷ zeros 9
    ∷ byte 0x01 ∷ zeros 255 ∷ []

abbrev pub file67 : Parts
file67 =
    text "TKG" ∷ byte 0x01 ∷ byte 0x00 ∷ byte 0x02 ∷ byte 0x02 ∷ zeros 9
    ∷ byte 0x01 ∷ zeros 255 ∷ []

abbrev pub file68 : Parts
file68 =
    text "TKF" ∷ byte 0x04 ∷ byte 0x00 ∷ byte 0x02 ∷ byte 0x02 ∷ zeros 9
    ∷ byte 0x01 ∷ zeros 255 ∷ []

abbrev pub file69 : Parts
file69 =
    text "TKF" ∷ byte 0x01 ∷ byte 0x01 ∷ byte 0x02 ∷ byte 0x02 ∷ zeros 9
    ∷ byte 0x01 ∷ zeros 255 ∷ []

abbrev pub file70 : Parts
file70 =
    text "TKF" ∷ byte 0x01 ∷ byte 0x00 ∷ byte 0x03 ∷ byte 0x02 ∷ zeros 9
    ∷ byte 0x01 ∷ zeros 255 ∷ []

abbrev pub file71 : Parts
file71 =
    text "TKF" ∷ byte 0x01 ∷ byte 0x00 ∷ byte 0x02 ∷ byte 0x03 ∷ zeros 9
    ∷ byte 0x01 ∷ zeros 255 ∷ []

abbrev pub file72 : Parts
file72 =
    text "TKF" ∷ byte 0x01 ∷ byte 0x00 ∷ byte 0x02 ∷ byte 0x02 ∷ byte 0x01 ∷ zeros 8
    ∷ byte 0x01 ∷ zeros 255 ∷ []

abbrev pub file73 : Parts
file73 =
    text "TKF" ∷ byte 0x01 ∷ byte 0x00 ∷ byte 0x02 ∷ byte 0x02 ∷ zeros 8 ∷ byte 0x01
    ∷ byte 0x01 ∷ zeros 255 ∷ []

abbrev pub file74 : Parts
file74 =
    text "TKF" ∷ byte 0x02 ∷ byte 0x00 ∷ byte 0x02 ∷ byte 0x02 ∷ zeros 9
    ∷ byte 0x01 ∷ zeros 127
    ∷ zeros 128 ∷ []

abbrev pub file75 : Parts
file75 =
    text "TKF" ∷ byte 0x01 ∷ byte 0x00 ∷ byte 0x02 ∷ byte 0x02 ∷ zeros 9
    ∷ byte 0x01 ∷ zeros 254 ∷ []

abbrev pub file76 : Parts
file76 =
    text "TKF" ∷ byte 0x01 ∷ byte 0x00 ∷ byte 0x02 ∷ byte 0x02 ∷ zeros 9
    ∷ byte 0x01 ∷ zeros 256 ∷ []

abbrev pub file77 : Parts
file77 =
    text "TKF" ∷ byte 0x01 ∷ byte 0x00 ∷ byte 0x02 ∷ byte 0x02 ∷ zeros 9 ∷ []

abbrev pub file78 : Parts
file78 =
    blanks 16
    ∷ blanks 256 ∷ []

abbrev pub file79 : Parts
file79 =
    text "TKF" ∷ byte 0x01 ∷ byte 0x00 ∷ byte 0x02 ∷ byte 0x02 ∷ zeros 9
    ∷ byte 0x01 ∷ zeros 127
    ∷ zeros 128 ∷ []

abbrev pub file80 : Parts
file80 =
    blanks 16
    ∷ blanks 480 ∷ []

abbrev pub file81 : Parts
file81 =
    text "TKF" ∷ byte 0x01 ∷ byte 0x00 ∷ byte 0x03 ∷ byte 0x03 ∷ zeros 9
    ∷ byte 0x01 ∷ zeros 159
    ∷ zeros 160
    ∷ zeros 160 ∷ []

abbrev pub file82 : Parts
file82 =
    blanks 16
    ∷ blanks 481 ∷ []

abbrev pub file83 : Parts
file83 =
    blanks 16
    ∷ blanks 479 ∷ []

abbrev pub file84 : Parts
file84 =
    blanks 16
    ∷ blanks 288 ∷ []

abbrev pub file85 : Parts
file85 =
    text "TKF" ∷ byte 0x03 ∷ byte 0x00 ∷ byte 0x02 ∷ byte 0x02 ∷ zeros 9
    ∷ byte 0x01 ∷ zeros 143
    ∷ zeros 144 ∷ []

abbrev pub file86 : Parts
file86 =
    blanks 16
    ∷ blanks 96 ∷ []

abbrev pub file87 : Parts
file87 =
    blanks 16 ∷ []

abbrev pub file88 : Parts
file88 =
    text "TKF" ∷ byte 0x02 ∷ byte 0x00 ∷ byte 0x02 ∷ byte 0x04 ∷ zeros 9
    ∷ byte 0x01 ∷ byte 0x01 ∷ byte 0x00 ∷ byte 0x02 ∷ zeros 28 ∷ text "x" ∷ byte 0x20 ∷ zeros 30 ∷ text "x" ∷ blanks 23
    ∷ byte 0xE0 ∷ byte 0x01 ∷ zeros 38
    ∷ byte 0x01 ∷ byte 0x01 ∷ byte 0x01 ∷ zeros 5 ∷ text "x" ∷ zeros 55 ∷ text "z" ∷ blanks 23 ∷ byte 0xDC ∷ text "&Gv"
    ∷ byte 0xE3 ∷ byte 0x08 ∷ byte 0x8D ∷ byte 0xCC ∷ zeros 32
    ∷ byte 0x01 ∷ byte 0x02 ∷ byte 0x02 ∷ byte 0x01 ∷ zeros 4 ∷ text "x" ∷ byte 0x20 ∷ zeros 22 ∷ text "x" ∷ zeros 31
    ∷ text "xx" ∷ blanks 22 ∷ byte 0xB9 ∷ byte 0x01 ∷ zeros 6 ∷ text "xxy" ∷ blanks 21 ∷ byte 0xDE ∷ byte 0x03 ∷ zeros 6
    ∷ byte 0x01 ∷ byte 0x01 ∷ byte 0x02 ∷ byte 0x01 ∷ zeros 4 ∷ text "xx" ∷ zeros 22 ∷ text "x" ∷ zeros 31 ∷ text "xyz"
    ∷ blanks 21 ∷ byte 0xD3 ∷ byte 0x01 ∷ zeros 38 ∷ []

abbrev pub file89 : Parts
file89 =
    text "TKF" ∷ byte 0x02 ∷ byte 0x00 ∷ byte 0x02 ∷ byte 0x04 ∷ zeros 9
    ∷ byte 0x01 ∷ byte 0x01 ∷ byte 0x00 ∷ byte 0x02 ∷ zeros 28 ∷ text "x" ∷ byte 0x20 ∷ zeros 30 ∷ text "x" ∷ blanks 23
    ∷ byte 0xE0 ∷ byte 0x01 ∷ zeros 38
    ∷ byte 0x01 ∷ byte 0x01 ∷ byte 0x01 ∷ zeros 5 ∷ text "x" ∷ zeros 55 ∷ text "z" ∷ blanks 23 ∷ byte 0xDC ∷ text "&Gv"
    ∷ byte 0xE3 ∷ byte 0x08 ∷ byte 0x8D ∷ byte 0xCC ∷ zeros 32
    ∷ byte 0x01 ∷ byte 0x02 ∷ byte 0x02 ∷ byte 0x01 ∷ zeros 4 ∷ text "x" ∷ byte 0x20 ∷ zeros 22 ∷ text "x" ∷ zeros 31
    ∷ text "xx" ∷ blanks 22 ∷ byte 0xB9 ∷ byte 0x01 ∷ zeros 6 ∷ text "xxy" ∷ blanks 21 ∷ byte 0xDE ∷ byte 0x03 ∷ zeros 6
    ∷ zeros 128 ∷ []

abbrev pub file90 : Parts
file90 =
    text "TKF" ∷ byte 0x03 ∷ byte 0x00 ∷ byte 0x02 ∷ byte 0x04 ∷ zeros 9
    ∷ byte 0x01 ∷ byte 0x02 ∷ zeros 62 ∷ text "y" ∷ blanks 23 ∷ byte 0xB1 ∷ byte 0x03 ∷ zeros 6 ∷ byte 0x02 ∷ zeros 7
    ∷ text "yx" ∷ blanks 22 ∷ byte 0x8B ∷ byte 0x02 ∷ zeros 6 ∷ byte 0x02 ∷ zeros 7
    ∷ zeros 144
    ∷ zeros 144
    ∷ zeros 144 ∷ []

abbrev pub file91 : Parts
file91 =
    text "TKF" ∷ byte 0x03 ∷ byte 0x00 ∷ byte 0x03 ∷ byte 0x03 ∷ zeros 9
    ∷ byte 0x01 ∷ byte 0x01 ∷ zeros 62 ∷ text "y" ∷ blanks 23 ∷ byte 0x1D ∷ byte 0x1B ∷ text "L" ∷ byte 0x06 ∷ text "n"
    ∷ byte 0xEA ∷ byte 0xD9 ∷ byte 0xAD ∷ byte 0xCB ∷ byte 0x0F ∷ text "O" ∷ byte 0xD8 ∷ byte 0xD4 ∷ byte 0xD2
    ∷ byte 0xAA ∷ text "G" ∷ zeros 80
    ∷ zeros 184
    ∷ zeros 184 ∷ []

abbrev pub file92 : Parts
file92 =
    text "TKF" ∷ byte 0x02 ∷ byte 0x00 ∷ byte 0x02 ∷ byte 0x02 ∷ zeros 9
    ∷ byte 0x01 ∷ byte 0x02 ∷ byte 0x00 ∷ byte 0x01 ∷ zeros 28 ∷ text "!" ∷ zeros 31 ∷ text "!!" ∷ blanks 22 ∷ byte 0x11
    ∷ byte 0x03 ∷ zeros 6 ∷ text "!!!" ∷ blanks 21 ∷ byte 0xB8 ∷ zeros 7
    ∷ byte 0x01 ∷ byte 0x02 ∷ byte 0x01 ∷ zeros 5 ∷ text "!" ∷ zeros 55 ∷ text "}!" ∷ blanks 22 ∷ text "q" ∷ byte 0x03
    ∷ zeros 6 ∷ text "}}}" ∷ blanks 21 ∷ byte 0x09 ∷ byte 0x03 ∷ zeros 6 ∷ []

abbrev pub file93 : Parts
file93 =
    text "TKF" ∷ byte 0x01 ∷ byte 0x00 ∷ byte 0x02 ∷ byte 0x04 ∷ zeros 9
    ∷ byte 0x01 ∷ byte 0x02 ∷ zeros 62 ∷ text "a" ∷ blanks 2 ∷ text "b" ∷ blanks 20 ∷ byte 0x1D ∷ byte 0x02 ∷ zeros 6
    ∷ text "ab" ∷ blanks 22 ∷ text "Y" ∷ byte 0x03 ∷ zeros 6
    ∷ byte 0x01 ∷ byte 0x01 ∷ byte 0x01 ∷ zeros 5 ∷ text "a" ∷ zeros 55 ∷ text "b" ∷ blanks 23 ∷ byte 0xD7 ∷ byte 0x01
    ∷ zeros 38
    ∷ zeros 128
    ∷ zeros 128 ∷ []

abbrev pub file94 : Parts
file94 =
    text "TKF" ∷ byte 0x01 ∷ byte 0x00 ∷ byte 0x02 ∷ byte 0x04 ∷ zeros 9
    ∷ byte 0x01 ∷ byte 0x02 ∷ zeros 62 ∷ text "a" ∷ blanks 2 ∷ text "b" ∷ blanks 20 ∷ byte 0x1D ∷ byte 0x02 ∷ zeros 6
    ∷ text "ab" ∷ blanks 22 ∷ text "Y" ∷ byte 0x03 ∷ zeros 6
    ∷ zeros 128
    ∷ zeros 128
    ∷ zeros 128 ∷ []

abbrev pub file95 : Parts
file95 =
    text "TKF" ∷ byte 0x01 ∷ byte 0x00 ∷ byte 0x02 ∷ byte 0x03 ∷ zeros 9
    ∷ byte 0x01 ∷ byte 0x02 ∷ byte 0x00 ∷ byte 0x06 ∷ zeros 28 ∷ text "a!a}!!" ∷ zeros 26 ∷ text "a!a}!!}!a}}}a!a"
    ∷ blanks 9 ∷ text "B" ∷ zeros 7 ∷ text "a!a}!!}!a}}}a!}!}}" ∷ blanks 6 ∷ text "q" ∷ byte 0x02 ∷ zeros 6
    ∷ byte 0x01 ∷ byte 0x01 ∷ byte 0x06 ∷ zeros 5 ∷ text "a!a}!!" ∷ zeros 50 ∷ text "a!a}!a!}" ∷ blanks 16 ∷ byte 0xF3
    ∷ byte 0x01 ∷ zeros 38
    ∷ byte 0x01 ∷ byte 0x01 ∷ byte 0x0F ∷ byte 0x06 ∷ zeros 4 ∷ text "a!a}!!}!a}}}a!a" ∷ zeros 9 ∷ text "a!a}!!"
    ∷ zeros 26 ∷ text "a!a}!!}!a}}}a!}!}}" ∷ blanks 6 ∷ text "q" ∷ byte 0x02 ∷ zeros 38 ∷ []

abbrev pub file96 : Parts
file96 =
    text "TKF" ∷ byte 0x01 ∷ byte 0x00 ∷ byte 0x02 ∷ byte 0x03 ∷ zeros 9
    ∷ byte 0x01 ∷ byte 0x02 ∷ byte 0x00 ∷ byte 0x06 ∷ zeros 28 ∷ text "a!a}!!" ∷ zeros 26 ∷ text "a!a}!!}!a}}}a!a"
    ∷ blanks 9 ∷ text "B" ∷ zeros 7 ∷ text "a!a}!!}!a}}}a!}!}}" ∷ blanks 6 ∷ text "q" ∷ byte 0x02 ∷ zeros 6
    ∷ byte 0x01 ∷ byte 0x01 ∷ byte 0x06 ∷ zeros 5 ∷ text "a!a}!!" ∷ zeros 50 ∷ text "a!a}!a!}" ∷ blanks 16 ∷ byte 0xF3
    ∷ byte 0x01 ∷ zeros 38
    ∷ zeros 128 ∷ []

abbrev pub file97 : Parts
file97 =
    text "TKF" ∷ byte 0x02 ∷ byte 0x00 ∷ byte 0x02 ∷ byte 0x04 ∷ zeros 9
    ∷ byte 0x01 ∷ byte 0x02 ∷ zeros 62 ∷ text "b" ∷ blanks 23 ∷ byte 0xED ∷ byte 0xBC ∷ byte 0x09 ∷ byte 0xA2
    ∷ byte 0xA6 ∷ byte 0x96 ∷ byte 0xE8 ∷ text "_bb" ∷ blanks 22 ∷ byte 0x16 ∷ text "b*" ∷ byte 0xEE ∷ text "y"
    ∷ byte 0xDB ∷ byte 0xA4 ∷ byte 0x0E
    ∷ byte 0x01 ∷ byte 0x02 ∷ byte 0x01 ∷ zeros 5 ∷ text "a" ∷ zeros 55 ∷ text "b" ∷ blanks 23 ∷ byte 0xED ∷ byte 0xBC
    ∷ byte 0x09 ∷ byte 0xA2 ∷ byte 0xA6 ∷ byte 0x96 ∷ byte 0xE8 ∷ text "_bb" ∷ blanks 22 ∷ byte 0x16 ∷ text "b*"
    ∷ byte 0xEE ∷ text "y" ∷ byte 0xDB ∷ byte 0xA4 ∷ byte 0x0E
    ∷ zeros 128
    ∷ zeros 128 ∷ []

abbrev pub file98 : Parts
file98 =
    text "TKF" ∷ byte 0x02 ∷ byte 0x00 ∷ byte 0x03 ∷ byte 0x02 ∷ zeros 9
    ∷ byte 0x01 ∷ byte 0x03 ∷ byte 0x00 ∷ byte 0x05 ∷ zeros 2 ∷ byte 0xF9 ∷ zeros 25 ∷ text "aabba" ∷ zeros 27
    ∷ text "aabb" ∷ blanks 20 ∷ byte 0xB1 ∷ byte 0xFC ∷ byte 0x95 ∷ byte 0x14 ∷ text "{" ∷ byte 0xBA ∷ text "."
    ∷ byte 0xB4 ∷ text "aabba" ∷ blanks 19 ∷ byte 0xB5 ∷ zeros 7 ∷ text "aabbab" ∷ blanks 18 ∷ byte 0x7E ∷ byte 0x01
    ∷ zeros 6
    ∷ zeros 160 ∷ []

abbrev pub file99 : Parts
file99 =
    text "TKF" ∷ byte 0x03 ∷ byte 0x00 ∷ byte 0x02 ∷ byte 0x02 ∷ zeros 9
    ∷ byte 0x01 ∷ byte 0x01 ∷ zeros 62 ∷ text "ab" ∷ byte 0x20 ∷ text "aa" ∷ blanks 19 ∷ byte 0xCC ∷ byte 0xED
    ∷ text "]" ∷ byte 0xD4 ∷ byte 0x1A ∷ byte 0x9A ∷ text "f>" ∷ byte 0x03 ∷ zeros 47
    ∷ zeros 56 ∷ byte 0xBF ∷ zeros 87 ∷ []

abbrev pub file100 : Parts
file100 =
    text "TKF" ∷ byte 0x02 ∷ byte 0x00 ∷ byte 0x02 ∷ byte 0x03 ∷ zeros 9
    ∷ byte 0x01 ∷ byte 0x01 ∷ byte 0x00 ∷ byte 0x05 ∷ zeros 28 ∷ text "xxyxy" ∷ zeros 27 ∷ text "xxyxy" ∷ blanks 19
    ∷ byte 0xAA ∷ byte 0x01 ∷ zeros 38
    ∷ byte 0x01 ∷ byte 0x02 ∷ byte 0x05 ∷ zeros 5 ∷ text "xxyxy" ∷ zeros 51 ∷ text "xxyxz" ∷ blanks 19 ∷ byte 0x85
    ∷ byte 0x02 ∷ zeros 6 ∷ text "xxyxzz" ∷ blanks 18 ∷ text "f" ∷ byte 0x02 ∷ zeros 6
    ∷ zeros 128 ∷ []

abbrev pub file101 : Parts
file101 =
    text "TKF" ∷ byte 0x01 ∷ byte 0x00 ∷ byte 0x02 ∷ byte 0x04 ∷ zeros 9
    ∷ byte 0x01 ∷ byte 0x01 ∷ byte 0x00 ∷ byte 0x04 ∷ zeros 28 ∷ text "ioo" ∷ byte 0x20 ∷ zeros 28 ∷ text "ioo"
    ∷ blanks 21 ∷ byte 0xDF ∷ zeros 39
    ∷ byte 0x01 ∷ byte 0x01 ∷ byte 0x04 ∷ zeros 5 ∷ text "ioo" ∷ byte 0x20 ∷ zeros 52 ∷ text "iooi" ∷ blanks 20
    ∷ byte 0xCC ∷ byte 0x02 ∷ byte 0xB1 ∷ byte 0xF4 ∷ byte 0x13 ∷ byte 0xC7 ∷ byte 0x8B ∷ byte 0x92 ∷ zeros 32
    ∷ zeros 128
    ∷ zeros 128 ∷ []

abbrev pub file102 : Parts
file102 =
    text "TKF" ∷ byte 0x02 ∷ byte 0x00 ∷ byte 0x03 ∷ byte 0x03 ∷ zeros 9
    ∷ byte 0x01 ∷ byte 0x02 ∷ byte 0x00 ∷ byte 0x03 ∷ zeros 28 ∷ text "aa" ∷ byte 0x20 ∷ zeros 29 ∷ text "aa"
    ∷ blanks 22 ∷ text "Y" ∷ byte 0x02 ∷ zeros 6 ∷ text "aa" ∷ byte 0x20 ∷ text "b" ∷ blanks 20 ∷ byte 0x91 ∷ byte 0x03
    ∷ zeros 38
    ∷ byte 0x01 ∷ byte 0x02 ∷ byte 0x03 ∷ zeros 5 ∷ text "aa" ∷ byte 0x20 ∷ zeros 53 ∷ text "aaab" ∷ blanks 20
    ∷ text "l" ∷ byte 0xCD ∷ text "E" ∷ byte 0xE7 ∷ byte 0xB4 ∷ byte 0x92 ∷ byte 0xE7 ∷ byte 0x15 ∷ text "aabbb"
    ∷ blanks 19 ∷ text "k" ∷ byte 0x02 ∷ zeros 38
    ∷ zeros 160 ∷ []

abbrev pub file103 : Parts
file103 =
    text "TKF" ∷ byte 0x02 ∷ byte 0x00 ∷ byte 0x02 ∷ byte 0x04 ∷ zeros 9
    ∷ byte 0x01 ∷ byte 0x01 ∷ byte 0x04 ∷ zeros 5 ∷ text "oinn" ∷ zeros 52 ∷ text "oino" ∷ blanks 20 ∷ byte 0xB5
    ∷ byte 0x02 ∷ zeros 38
    ∷ zeros 128
    ∷ zeros 128
    ∷ byte 0x01 ∷ byte 0x02 ∷ byte 0x00 ∷ byte 0x04 ∷ zeros 28 ∷ text "oinn" ∷ zeros 28 ∷ text "oini" ∷ blanks 20
    ∷ text "^" ∷ zeros 7 ∷ text "oinn" ∷ blanks 20 ∷ zeros 8 ∷ []

abbrev pub file104 : Parts
file104 =
    text "TKF" ∷ byte 0x03 ∷ byte 0x00 ∷ byte 0x02 ∷ byte 0x04 ∷ zeros 9
    ∷ byte 0x01 ∷ byte 0x01 ∷ byte 0x00 ∷ byte 0x03 ∷ zeros 28 ∷ text "baa" ∷ zeros 29 ∷ text "baab" ∷ blanks 20
    ∷ text "S" ∷ zeros 7 ∷ byte 0x03 ∷ zeros 47
    ∷ byte 0x01 ∷ byte 0x01 ∷ byte 0x03 ∷ zeros 5 ∷ text "baa" ∷ zeros 53 ∷ text "babab" ∷ blanks 19 ∷ byte 0xB9
    ∷ byte 0x01 ∷ zeros 6 ∷ byte 0x01 ∷ zeros 47
    ∷ zeros 144
    ∷ zeros 144 ∷ []

abbrev pub file105 : Parts
file105 =
    text "TKF" ∷ byte 0x01 ∷ byte 0x00 ∷ byte 0x02 ∷ byte 0x02 ∷ zeros 9
    ∷ byte 0x01 ∷ byte 0x02 ∷ zeros 62 ∷ text "ii" ∷ blanks 22 ∷ zeros 8 ∷ text "nin" ∷ blanks 21 ∷ text "." ∷ zeros 7
    ∷ byte 0x01 ∷ byte 0x01 ∷ byte 0x02 ∷ zeros 5 ∷ text "n" ∷ byte 0x20 ∷ zeros 54 ∷ text "nin" ∷ blanks 21 ∷ text "."
    ∷ zeros 39 ∷ []

abbrev pub file106 : Parts
file106 =
    text "TKF" ∷ byte 0x01 ∷ byte 0x00 ∷ byte 0x02 ∷ byte 0x03 ∷ zeros 9
    ∷ zeros 128
    ∷ byte 0x01 ∷ byte 0x01 ∷ byte 0x00 ∷ byte 0x14 ∷ zeros 28 ∷ text "rttststtsrtttrrsrrr" ∷ byte 0x20 ∷ zeros 12
    ∷ text "rttststtsrtttrrsrrr" ∷ blanks 5 ∷ byte 0xB2 ∷ byte 0xD4 ∷ byte 0x8C ∷ byte 0x0D ∷ byte 0xCB ∷ text "-"
    ∷ byte 0x8F ∷ byte 0xB3 ∷ zeros 32
    ∷ byte 0x01 ∷ byte 0x01 ∷ byte 0x14 ∷ zeros 5 ∷ text "rttststtsrtttrrsrrr" ∷ byte 0x20 ∷ zeros 36
    ∷ text "rttststtss" ∷ blanks 14 ∷ byte 0xA3 ∷ byte 0x01 ∷ zeros 38 ∷ []

abbrev pub file107 : Parts
file107 =
    text "TKF" ∷ byte 0x01 ∷ byte 0x00 ∷ byte 0x03 ∷ byte 0x03 ∷ zeros 9
    ∷ zeros 160
    ∷ byte 0x01 ∷ byte 0x02 ∷ byte 0x13 ∷ zeros 5 ∷ text "rrrrrrsrrrsssssttrr" ∷ zeros 37 ∷ text "rrrrrrsrrrsssssttrtst"
    ∷ blanks 3 ∷ byte 0xBA ∷ zeros 7 ∷ text "rrrrrrsrrrsssssttrtstss" ∷ byte 0x20 ∷ text ";" ∷ byte 0x01 ∷ zeros 38
    ∷ byte 0x01 ∷ byte 0x02 ∷ byte 0x00 ∷ byte 0x13 ∷ zeros 28 ∷ text "rrrrrrsrrrsssssttrr" ∷ zeros 13
    ∷ text "rrrrrrsrrrsss" ∷ blanks 11 ∷ byte 0xC5 ∷ zeros 7 ∷ text "rrrrrrsrrrsssssttrrr" ∷ blanks 4 ∷ byte 0xEC
    ∷ byte 0x08 ∷ byte 0x88 ∷ text "z=/T7" ∷ zeros 32 ∷ []

abbrev pub file108 : Parts
file108 =
    text "TKF" ∷ byte 0x02 ∷ byte 0x00 ∷ byte 0x03 ∷ byte 0x03 ∷ zeros 9
    ∷ byte 0x01 ∷ byte 0x03 ∷ byte 0x00 ∷ byte 0x02 ∷ zeros 28 ∷ text "}!" ∷ zeros 30 ∷ text "}" ∷ blanks 23 ∷ byte 0x5C
    ∷ byte 0x03 ∷ zeros 6 ∷ text "}!" ∷ blanks 22 ∷ text "g" ∷ byte 0x02 ∷ zeros 6 ∷ text "}!!" ∷ blanks 21 ∷ byte 0x0D
    ∷ byte 0x01 ∷ zeros 6
    ∷ byte 0x01 ∷ byte 0x02 ∷ byte 0x00 ∷ byte 0x02 ∷ zeros 28 ∷ text "}!" ∷ zeros 30 ∷ text "}" ∷ blanks 23 ∷ byte 0x5C
    ∷ byte 0x03 ∷ zeros 6 ∷ text "}!" ∷ blanks 22 ∷ text "g" ∷ byte 0x02 ∷ zeros 6 ∷ text "}!!" ∷ blanks 21 ∷ byte 0x0D
    ∷ byte 0x01 ∷ zeros 6
    ∷ zeros 160 ∷ []

abbrev pub file109 : Parts
file109 =
    text "TKF" ∷ byte 0x01 ∷ byte 0x00 ∷ byte 0x02 ∷ byte 0x03 ∷ zeros 9
    ∷ byte 0x01 ∷ byte 0x02 ∷ byte 0x00 ∷ byte 0x05 ∷ zeros 28 ∷ text "baba" ∷ byte 0x20 ∷ zeros 27 ∷ text "baaba"
    ∷ blanks 19 ∷ byte 0x8F ∷ zeros 7 ∷ text "baba" ∷ blanks 20 ∷ text "p" ∷ zeros 7
    ∷ byte 0x01 ∷ byte 0x01 ∷ byte 0x05 ∷ zeros 5 ∷ text "babaa" ∷ zeros 51 ∷ text "babab" ∷ blanks 19 ∷ text "t"
    ∷ byte 0x03 ∷ zeros 38
    ∷ byte 0x01 ∷ byte 0x01 ∷ byte 0x05 ∷ zeros 5 ∷ text "baba" ∷ byte 0x20 ∷ zeros 51 ∷ text "babaa" ∷ blanks 19
    ∷ zeros 40 ∷ []

abbrev pub file110 : Parts
file110 =
    text "TKF" ∷ byte 0x03 ∷ byte 0x00 ∷ byte 0x03 ∷ byte 0x03 ∷ zeros 9
    ∷ byte 0x01 ∷ byte 0x03 ∷ byte 0x00 ∷ byte 0x14 ∷ zeros 28 ∷ text "iiiniin" ∷ blanks 6 ∷ text "nnnn" ∷ blanks 2
    ∷ text "i" ∷ zeros 12 ∷ text "iiiniin" ∷ blanks 6 ∷ text "nnnn" ∷ blanks 3 ∷ text "i" ∷ blanks 3 ∷ text "y"
    ∷ byte 0x03 ∷ zeros 6 ∷ byte 0xFE ∷ byte 0xFF ∷ byte 0xFF ∷ byte 0xFF ∷ byte 0xFF ∷ byte 0xFF ∷ byte 0xFF
    ∷ byte 0xFF ∷ text "iiiniin" ∷ blanks 6 ∷ text "nnnn" ∷ blanks 2 ∷ text "ii" ∷ blanks 3 ∷ text "e" ∷ byte 0x01
    ∷ zeros 6 ∷ byte 0xAC ∷ text ";K" ∷ byte 0xD7 ∷ byte 0xBD ∷ text "D" ∷ byte 0x1F ∷ byte 0x87 ∷ text "iiiniin"
    ∷ blanks 6 ∷ text "nnnn" ∷ blanks 2 ∷ text "in" ∷ blanks 3 ∷ byte 0xD2 ∷ byte 0x03 ∷ zeros 6 ∷ byte 0x02 ∷ zeros 7
    ∷ byte 0x01 ∷ byte 0x01 ∷ byte 0x14 ∷ zeros 5 ∷ text "iiiniin" ∷ blanks 6 ∷ text "nnnn" ∷ blanks 2 ∷ text "i"
    ∷ zeros 36 ∷ text "iiiniin" ∷ blanks 6 ∷ text "nnnn" ∷ blanks 2 ∷ text "n" ∷ blanks 4 ∷ text "v" ∷ byte 0x02
    ∷ zeros 94
    ∷ zeros 184 ∷ []

abbrev pub file111 : Parts
file111 =
    text "TKF" ∷ byte 0x01 ∷ byte 0x00 ∷ byte 0x03 ∷ byte 0x04 ∷ zeros 9
    ∷ byte 0x01 ∷ byte 0x02 ∷ byte 0x00 ∷ byte 0x05 ∷ zeros 28 ∷ text "}!!!!" ∷ zeros 27 ∷ text "}!!!" ∷ blanks 20
    ∷ text "VD" ∷ byte 0xC0 ∷ byte 0x9D ∷ text "S" ∷ byte 0x81 ∷ byte 0xB0 ∷ text "F}!!!!a}" ∷ blanks 17 ∷ byte 0x89
    ∷ byte 0x01 ∷ zeros 38
    ∷ byte 0x01 ∷ byte 0x03 ∷ byte 0x05 ∷ zeros 5 ∷ text "}!!!!" ∷ zeros 51 ∷ text "}!!!a!" ∷ blanks 18 ∷ byte 0xA0
    ∷ byte 0x01 ∷ zeros 6 ∷ text "}!!!a}a" ∷ blanks 17 ∷ text "5" ∷ byte 0x02 ∷ zeros 6 ∷ text "}!!!}!" ∷ blanks 18
    ∷ text "N" ∷ byte 0x01 ∷ zeros 6
    ∷ zeros 160
    ∷ zeros 160 ∷ []

abbrev pub file112 : Parts
file112 =
    text "TKF" ∷ byte 0x01 ∷ byte 0x00 ∷ byte 0x02 ∷ byte 0x02 ∷ zeros 9
    ∷ byte 0x01 ∷ byte 0x02 ∷ byte 0x00 ∷ byte 0x02 ∷ zeros 28 ∷ text "i" ∷ byte 0x20 ∷ zeros 30 ∷ text "i" ∷ blanks 23
    ∷ text "0" ∷ byte 0x01 ∷ zeros 6 ∷ text "i" ∷ byte 0x20 ∷ text "i" ∷ blanks 21 ∷ byte 0x8C ∷ byte 0x03 ∷ zeros 6
    ∷ byte 0x01 ∷ byte 0x01 ∷ byte 0x02 ∷ zeros 5 ∷ text "i" ∷ byte 0x20 ∷ zeros 54 ∷ text "ii" ∷ blanks 22 ∷ text "*"
    ∷ byte 0x03 ∷ zeros 38 ∷ []

abbrev pub file113 : Parts
file113 =
    text "TKF" ∷ byte 0x03 ∷ byte 0x00 ∷ byte 0x02 ∷ byte 0x03 ∷ zeros 9
    ∷ byte 0x01 ∷ zeros 2 ∷ byte 0x03 ∷ zeros 28 ∷ text "zxx" ∷ zeros 109
    ∷ byte 0x01 ∷ byte 0x02 ∷ byte 0x03 ∷ byte 0x12 ∷ zeros 4 ∷ text "zxx" ∷ zeros 21 ∷ text "zxyzyzzyzyxzxyzxxy"
    ∷ zeros 14 ∷ text "zxyzyzzyzyxxzx" ∷ blanks 10 ∷ byte 0x09 ∷ byte 0x02 ∷ zeros 6 ∷ byte 0x02 ∷ zeros 7
    ∷ text "zxyzyzzyzyxzxyzxxy" ∷ blanks 6 ∷ byte 0xD7 ∷ text "$!5" ∷ byte 0xDB ∷ byte 0x88 ∷ text "S2" ∷ byte 0xB7
    ∷ byte 0x14 ∷ text "b" ∷ byte 0x03 ∷ byte 0xD6 ∷ byte 0xEE ∷ byte 0xF3 ∷ text "c"
    ∷ byte 0x01 ∷ byte 0x02 ∷ byte 0x12 ∷ zeros 5 ∷ text "zxyzyzzyzyxzxyzxxy" ∷ zeros 38
    ∷ text "zxyzyzzyzyxzxyzxxzxzyzxx" ∷ byte 0x8A ∷ zeros 7 ∷ byte 0xFF ∷ byte 0xFF ∷ byte 0xFF ∷ byte 0xFF ∷ byte 0xFF
    ∷ byte 0xFF ∷ byte 0xFF ∷ byte 0xFF ∷ text "zxyzyzzyzyxzxyzxxzxzyzxyi" ∷ byte 0x02 ∷ zeros 6 ∷ byte 0xFE ∷ byte 0xFF
    ∷ byte 0xFF ∷ byte 0xFF ∷ byte 0xFF ∷ byte 0xFF ∷ byte 0xFF ∷ byte 0xFF ∷ []

abbrev pub file114 : Parts
file114 =
    text "TKF" ∷ byte 0x01 ∷ byte 0x00 ∷ byte 0x02 ∷ byte 0x03 ∷ zeros 9
    ∷ byte 0x01 ∷ byte 0x02 ∷ zeros 62 ∷ text "}" ∷ blanks 23 ∷ text "/" ∷ byte 0x80 ∷ text "UaL" ∷ byte 0x15
    ∷ byte 0x8F ∷ byte 0xAF ∷ text "}!}" ∷ blanks 21 ∷ text "7" ∷ byte 0xB3 ∷ byte 0x1F ∷ text "kw" ∷ byte 0xDE
    ∷ byte 0x88 ∷ byte 0xC5
    ∷ byte 0x01 ∷ byte 0x01 ∷ byte 0x02 ∷ zeros 5 ∷ text "}!" ∷ zeros 54 ∷ text "}}}" ∷ blanks 21 ∷ text "w" ∷ byte 0x01
    ∷ zeros 38
    ∷ zeros 128 ∷ []

abbrev pub file115 : Parts
file115 =
    text "TKF" ∷ byte 0x01 ∷ byte 0x00 ∷ byte 0x02 ∷ byte 0x04 ∷ zeros 9
    ∷ byte 0x01 ∷ byte 0x02 ∷ byte 0x00 ∷ byte 0x01 ∷ zeros 28 ∷ text "a" ∷ zeros 31 ∷ text "a!" ∷ blanks 22 ∷ text "S"
    ∷ byte 0xC9 ∷ byte 0x15 ∷ text "Q8av2a}!" ∷ blanks 21 ∷ byte 0xF7 ∷ zeros 7
    ∷ byte 0x01 ∷ byte 0x01 ∷ byte 0x03 ∷ zeros 5 ∷ text "}!" ∷ byte 0x20 ∷ zeros 53 ∷ text "}!}" ∷ blanks 21 ∷ text "@"
    ∷ byte 0x02 ∷ zeros 38
    ∷ byte 0x01 ∷ byte 0x01 ∷ byte 0x02 ∷ byte 0x03 ∷ zeros 4 ∷ text "}" ∷ byte 0x20 ∷ zeros 22 ∷ text "}!" ∷ byte 0x20
    ∷ zeros 29 ∷ text "}!" ∷ blanks 22 ∷ text "a" ∷ byte 0x03 ∷ zeros 38
    ∷ byte 0x01 ∷ byte 0x01 ∷ byte 0x01 ∷ byte 0x02 ∷ zeros 4 ∷ text "a" ∷ zeros 23 ∷ text "}" ∷ byte 0x20 ∷ zeros 30
    ∷ text "}" ∷ blanks 23 ∷ byte 0x95 ∷ byte 0x03 ∷ zeros 38 ∷ []

abbrev pub file116 : Parts
file116 =
    text "TKF" ∷ byte 0x03 ∷ byte 0x00 ∷ byte 0x02 ∷ byte 0x04 ∷ zeros 9
    ∷ byte 0x01 ∷ byte 0x02 ∷ byte 0x00 ∷ byte 0x01 ∷ zeros 28 ∷ text "i" ∷ zeros 31 ∷ text "in" ∷ blanks 22 ∷ byte 0xD1
    ∷ zeros 7 ∷ byte 0x03 ∷ zeros 7 ∷ text "ion" ∷ blanks 21 ∷ byte 0x05 ∷ byte 0xCE ∷ text "3" ∷ byte 0xBE ∷ text ";"
    ∷ byte 0x98 ∷ byte 0x8D ∷ text ";" ∷ byte 0xFF ∷ byte 0xFF ∷ byte 0xFF ∷ byte 0xFF ∷ byte 0xFF ∷ byte 0xFF
    ∷ byte 0xFF ∷ byte 0xFF
    ∷ byte 0x01 ∷ byte 0x01 ∷ byte 0x01 ∷ byte 0x02 ∷ zeros 4 ∷ text "n" ∷ zeros 23 ∷ text "oi" ∷ zeros 30 ∷ text "oii"
    ∷ blanks 21 ∷ byte 0xA2 ∷ byte 0x02 ∷ zeros 54
    ∷ byte 0x01 ∷ byte 0x01 ∷ byte 0x01 ∷ byte 0x01 ∷ zeros 4 ∷ text "i" ∷ zeros 23 ∷ text "n" ∷ zeros 31 ∷ text "n"
    ∷ blanks 23 ∷ byte 0xA5 ∷ zeros 7 ∷ byte 0x05 ∷ zeros 47
    ∷ byte 0x01 ∷ byte 0x02 ∷ byte 0x02 ∷ zeros 5 ∷ text "oi" ∷ zeros 54 ∷ text "oni" ∷ blanks 21 ∷ byte 0xD6 ∷ zeros 15
    ∷ text "onn" ∷ blanks 21 ∷ byte 0xF1 ∷ byte 0xA9 ∷ text "XL" ∷ byte 0x87 ∷ text "G:" ∷ byte 0xFB ∷ byte 0x04
    ∷ zeros 7 ∷ []

abbrev pub file117 : Parts
file117 =
    text "TKF" ∷ byte 0x01 ∷ byte 0x00 ∷ byte 0x02 ∷ byte 0x03 ∷ zeros 9
    ∷ byte 0x01 ∷ byte 0x02 ∷ byte 0x00 ∷ byte 0x02 ∷ zeros 28 ∷ text "xx" ∷ zeros 30 ∷ text "x" ∷ blanks 23 ∷ byte 0x99
    ∷ text "-" ∷ byte 0x0B ∷ byte 0x99 ∷ byte 0xD6 ∷ byte 0xE2 ∷ byte 0xA0 ∷ byte 0xA0 ∷ text "xx" ∷ blanks 22
    ∷ text "Nz" ∷ byte 0xDA ∷ byte 0xCB ∷ text "g" ∷ byte 0x18 ∷ byte 0x83 ∷ byte 0xB6
    ∷ byte 0x01 ∷ byte 0x02 ∷ byte 0x01 ∷ zeros 5 ∷ text "x" ∷ zeros 55 ∷ text "yyy" ∷ blanks 21 ∷ text "E" ∷ byte 0x03
    ∷ zeros 6 ∷ text "yz" ∷ blanks 22 ∷ text "Z" ∷ zeros 7
    ∷ byte 0x01 ∷ byte 0x01 ∷ byte 0x02 ∷ byte 0x01 ∷ zeros 4 ∷ text "xx" ∷ zeros 22 ∷ text "x" ∷ zeros 31 ∷ text "xz"
    ∷ blanks 22 ∷ text "b" ∷ byte 0x01 ∷ zeros 38 ∷ []

abbrev pub file118 : Parts
file118 =
    text "TKF" ∷ byte 0x03 ∷ byte 0x00 ∷ byte 0x02 ∷ byte 0x04 ∷ zeros 9
    ∷ byte 0x01 ∷ byte 0x01 ∷ byte 0x00 ∷ byte 0x14 ∷ zeros 28 ∷ text "i" ∷ byte 0x20 ∷ text "n" ∷ byte 0x20 ∷ text "n"
    ∷ byte 0x20 ∷ text "i" ∷ byte 0x20 ∷ text "nnnnn" ∷ blanks 2 ∷ text "n" ∷ blanks 4 ∷ zeros 12 ∷ text "i" ∷ byte 0x20
    ∷ text "n" ∷ byte 0x20 ∷ text "n" ∷ byte 0x20 ∷ text "i" ∷ byte 0x20 ∷ text "nnnnn" ∷ blanks 2 ∷ text "n" ∷ blanks 4
    ∷ text "nn" ∷ blanks 2 ∷ byte 0xD0 ∷ byte 0x01 ∷ zeros 6 ∷ byte 0x03 ∷ zeros 47
    ∷ byte 0x01 ∷ byte 0x01 ∷ byte 0x14 ∷ zeros 5 ∷ text "i" ∷ byte 0x20 ∷ text "n" ∷ byte 0x20 ∷ text "n" ∷ byte 0x20
    ∷ text "i" ∷ byte 0x20 ∷ text "nnnnn" ∷ blanks 2 ∷ text "n" ∷ blanks 3 ∷ text "i" ∷ zeros 36 ∷ text "i" ∷ byte 0x20
    ∷ text "n" ∷ byte 0x20 ∷ text "n" ∷ byte 0x20 ∷ text "i" ∷ byte 0x20 ∷ text "nnnnn" ∷ blanks 2 ∷ text "n" ∷ blanks 3
    ∷ text "n" ∷ blanks 4 ∷ text ";" ∷ zeros 7 ∷ byte 0x02 ∷ zeros 47
    ∷ byte 0x01 ∷ byte 0x02 ∷ byte 0x14 ∷ byte 0x14 ∷ zeros 4 ∷ text "i" ∷ byte 0x20 ∷ text "n" ∷ byte 0x20 ∷ text "n"
    ∷ byte 0x20 ∷ text "i" ∷ byte 0x20 ∷ text "nnnnn" ∷ blanks 2 ∷ text "n" ∷ blanks 4 ∷ zeros 4 ∷ text "i" ∷ byte 0x20
    ∷ text "n" ∷ byte 0x20 ∷ text "n" ∷ byte 0x20 ∷ text "i" ∷ byte 0x20 ∷ text "nnnnn" ∷ blanks 2 ∷ text "n" ∷ blanks 3
    ∷ text "i" ∷ zeros 12 ∷ text "i" ∷ byte 0x20 ∷ text "n" ∷ byte 0x20 ∷ text "n" ∷ byte 0x20 ∷ text "i" ∷ byte 0x20
    ∷ text "nnnnn" ∷ blanks 2 ∷ text "n" ∷ blanks 3 ∷ text "i" ∷ blanks 4 ∷ text "t" ∷ zeros 15 ∷ text "i" ∷ byte 0x20
    ∷ text "n" ∷ byte 0x20 ∷ text "n" ∷ byte 0x20 ∷ text "i" ∷ byte 0x20 ∷ text "nnnnn" ∷ blanks 2 ∷ text "n" ∷ blanks 3
    ∷ text "in" ∷ blanks 3 ∷ byte 0xE1 ∷ byte 0x03 ∷ zeros 6 ∷ byte 0x04 ∷ zeros 7
    ∷ zeros 144 ∷ []

abbrev pub file119 : Parts
file119 =
    text "TKF" ∷ byte 0x01 ∷ byte 0x00 ∷ byte 0x02 ∷ byte 0x04 ∷ zeros 9
    ∷ byte 0x01 ∷ byte 0x02 ∷ byte 0x00 ∷ byte 0x01 ∷ zeros 28 ∷ text "i" ∷ zeros 31 ∷ text "ii" ∷ blanks 22 ∷ text "q"
    ∷ byte 0x01 ∷ zeros 6 ∷ text "iii" ∷ blanks 21 ∷ byte 0x00 ∷ byte 0x01 ∷ zeros 6
    ∷ byte 0x01 ∷ byte 0x02 ∷ byte 0x01 ∷ zeros 5 ∷ text "n" ∷ zeros 55 ∷ text "o" ∷ blanks 23 ∷ text "D" ∷ byte 0xE9
    ∷ byte 0x80 ∷ text "=" ∷ byte 0xDB ∷ text "c" ∷ byte 0x17 ∷ byte 0x83 ∷ text "ooo" ∷ blanks 21 ∷ byte 0xD0
    ∷ byte 0x02 ∷ zeros 6
    ∷ byte 0x01 ∷ byte 0x01 ∷ byte 0x02 ∷ byte 0x01 ∷ zeros 4 ∷ text "ni" ∷ zeros 22 ∷ text "n" ∷ zeros 31 ∷ text "noo"
    ∷ blanks 21 ∷ byte 0xF3 ∷ byte 0x02 ∷ zeros 38
    ∷ byte 0x01 ∷ byte 0x01 ∷ byte 0x01 ∷ byte 0x02 ∷ zeros 4 ∷ text "i" ∷ zeros 23 ∷ text "ni" ∷ zeros 30 ∷ text "nin"
    ∷ blanks 21 ∷ byte 0x08 ∷ zeros 39 ∷ []

abbrev pub file120 : Parts
file120 =
    text "TKF" ∷ byte 0x01 ∷ byte 0x00 ∷ byte 0x02 ∷ byte 0x03 ∷ zeros 9
    ∷ byte 0x01 ∷ byte 0x01 ∷ byte 0x00 ∷ byte 0x01 ∷ zeros 28 ∷ text "!" ∷ zeros 31 ∷ text "!" ∷ blanks 23 ∷ byte 0xF7
    ∷ byte 0xF9 ∷ text "(" ∷ byte 0xA9 ∷ text "D" ∷ byte 0xF7 ∷ byte 0xEA ∷ byte 0x90 ∷ zeros 32
    ∷ byte 0x01 ∷ byte 0x02 ∷ byte 0x01 ∷ byte 0x01 ∷ zeros 4 ∷ text "!" ∷ zeros 23 ∷ text "a" ∷ zeros 31 ∷ text "a"
    ∷ blanks 23 ∷ byte 0x1F ∷ zeros 7 ∷ text "a}!" ∷ blanks 21 ∷ byte 0xAA ∷ byte 0x02 ∷ zeros 6
    ∷ byte 0x01 ∷ byte 0x02 ∷ byte 0x01 ∷ zeros 5 ∷ text "a" ∷ zeros 55 ∷ text "}" ∷ blanks 23 ∷ byte 0x90 ∷ byte 0x01
    ∷ zeros 6 ∷ text "}}}" ∷ blanks 21 ∷ text "6" ∷ byte 0x03 ∷ zeros 6 ∷ []

abbrev pub file121 : Parts
file121 =
    text "TKF" ∷ byte 0x03 ∷ byte 0x00 ∷ byte 0x02 ∷ byte 0x04 ∷ zeros 9
    ∷ byte 0x01 ∷ byte 0x01 ∷ byte 0x00 ∷ byte 0x02 ∷ zeros 28 ∷ text "i" ∷ byte 0x20 ∷ zeros 30 ∷ text "i" ∷ blanks 23
    ∷ byte 0xA2 ∷ byte 0x03 ∷ zeros 6 ∷ byte 0x03 ∷ zeros 47
    ∷ byte 0x01 ∷ byte 0x01 ∷ byte 0x02 ∷ byte 0x04 ∷ zeros 4 ∷ text "i" ∷ byte 0x20 ∷ zeros 22 ∷ text "in" ∷ blanks 2
    ∷ zeros 28 ∷ text "in" ∷ blanks 2 ∷ text "i" ∷ blanks 19 ∷ byte 0x8F ∷ zeros 55
    ∷ byte 0x01 ∷ byte 0x02 ∷ byte 0x04 ∷ zeros 5 ∷ text "in" ∷ blanks 2 ∷ zeros 52 ∷ text "in" ∷ byte 0x20 ∷ text "i"
    ∷ blanks 20 ∷ text "RY-h" ∷ byte 0x98 ∷ byte 0x8D ∷ byte 0x18 ∷ text "d" ∷ byte 0x02 ∷ zeros 7 ∷ text "in"
    ∷ byte 0x20 ∷ text "iinn" ∷ blanks 17 ∷ byte 0xCF ∷ byte 0x01 ∷ zeros 6 ∷ text "l" ∷ byte 0xE2 ∷ text "5"
    ∷ byte 0xAA ∷ text "^:7" ∷ byte 0xA7
    ∷ zeros 144 ∷ []

abbrev pub file122 : Parts
file122 =
    text "TKF" ∷ byte 0x02 ∷ byte 0x00 ∷ byte 0x02 ∷ byte 0x04 ∷ zeros 9
    ∷ byte 0x01 ∷ byte 0x02 ∷ byte 0x00 ∷ byte 0x02 ∷ zeros 28 ∷ text "a" ∷ byte 0x20 ∷ zeros 30 ∷ text "a" ∷ blanks 23
    ∷ text "4" ∷ byte 0x01 ∷ zeros 6 ∷ text "a" ∷ byte 0x20 ∷ text "b" ∷ blanks 21 ∷ byte 0xF2 ∷ byte 0x02 ∷ zeros 6
    ∷ byte 0x01 ∷ byte 0x01 ∷ byte 0x02 ∷ byte 0x01 ∷ zeros 4 ∷ text "aa" ∷ zeros 22 ∷ text "a" ∷ zeros 31 ∷ text "abaa"
    ∷ blanks 20 ∷ byte 0x95 ∷ byte 0x03 ∷ zeros 38
    ∷ byte 0x01 ∷ byte 0x01 ∷ byte 0x02 ∷ byte 0x02 ∷ zeros 4 ∷ text "a" ∷ byte 0x20 ∷ zeros 22 ∷ text "aa" ∷ zeros 30
    ∷ text "aaa" ∷ blanks 21 ∷ text "y" ∷ byte 0xBB ∷ text "/@oz" ∷ byte 0x8D ∷ byte 0x10 ∷ zeros 32
    ∷ byte 0x01 ∷ byte 0x02 ∷ byte 0x01 ∷ zeros 5 ∷ text "a" ∷ zeros 55 ∷ text "ba" ∷ blanks 22 ∷ zeros 8 ∷ text "bbb"
    ∷ blanks 21 ∷ text "%" ∷ zeros 7 ∷ []

abbrev pub file123 : Parts
file123 =
    text "TKF" ∷ byte 0x03 ∷ byte 0x00 ∷ byte 0x03 ∷ byte 0x02 ∷ zeros 9
    ∷ byte 0x01 ∷ byte 0x03 ∷ byte 0x00 ∷ byte 0x04 ∷ zeros 28 ∷ text "}a}a" ∷ zeros 28 ∷ text "}a}!" ∷ blanks 20
    ∷ byte 0x5C ∷ zeros 7 ∷ byte 0xFF ∷ byte 0xFF ∷ byte 0xFF ∷ byte 0xFF ∷ byte 0xFF ∷ byte 0xFF ∷ byte 0xFF
    ∷ byte 0xFF ∷ text "}a}a!}" ∷ blanks 18 ∷ byte 0xEB ∷ zeros 7 ∷ byte 0xFE ∷ byte 0xFF ∷ byte 0xFF ∷ byte 0xFF
    ∷ byte 0xFF ∷ byte 0xFF ∷ byte 0xFF ∷ byte 0xFF ∷ text "}a}aa" ∷ blanks 19 ∷ byte 0x87 ∷ byte 0x9E ∷ byte 0xF8
    ∷ byte 0xB3 ∷ byte 0xD8 ∷ byte 0x83 ∷ byte 0xBB ∷ byte 0x9E ∷ byte 0x04 ∷ zeros 7
    ∷ byte 0x01 ∷ byte 0x01 ∷ byte 0x04 ∷ zeros 5 ∷ text "}a}a" ∷ zeros 52 ∷ text "}a}}" ∷ blanks 20 ∷ text "1"
    ∷ zeros 7 ∷ byte 0xFF ∷ byte 0xFF ∷ byte 0xFF ∷ byte 0xFF ∷ byte 0xFF ∷ byte 0xFF ∷ byte 0xFF ∷ byte 0xFF ∷ zeros 80
    ∷ []

abbrev pub file124 : Parts
file124 =
    text "TKF" ∷ byte 0x01 ∷ byte 0x00 ∷ byte 0x02 ∷ byte 0x02 ∷ zeros 9
    ∷ byte 0x01 ∷ byte 0x02 ∷ byte 0x00 ∷ byte 0x02 ∷ zeros 28 ∷ text "!!" ∷ zeros 30 ∷ text "!" ∷ blanks 23 ∷ byte 0xC5
    ∷ byte 0x02 ∷ zeros 6 ∷ text "!!}" ∷ blanks 21 ∷ byte 0xA8 ∷ byte 0x01 ∷ zeros 6
    ∷ byte 0x01 ∷ byte 0x02 ∷ byte 0x02 ∷ zeros 5 ∷ text "!!" ∷ zeros 54 ∷ text "!}" ∷ blanks 22 ∷ text "w" ∷ byte 0x01
    ∷ zeros 6 ∷ text "!}!" ∷ blanks 21 ∷ text "P" ∷ byte 0x03 ∷ zeros 6 ∷ []

abbrev pub file125 : Parts
file125 =
    text "TKF" ∷ byte 0x03 ∷ byte 0x00 ∷ byte 0x02 ∷ byte 0x04 ∷ zeros 9
    ∷ byte 0x01 ∷ byte 0x01 ∷ byte 0x00 ∷ byte 0x04 ∷ zeros 28 ∷ text "!}}!" ∷ zeros 28 ∷ text "!}}!!!" ∷ blanks 18
    ∷ text "]" ∷ byte 0x03 ∷ zeros 6 ∷ byte 0x01 ∷ zeros 47
    ∷ byte 0x01 ∷ byte 0x01 ∷ byte 0x0D ∷ zeros 5 ∷ text "!}}}!}!}!!!!!" ∷ zeros 43 ∷ text "!}}}!}!}!!!!}!}" ∷ blanks 9
    ∷ byte 0xB3 ∷ byte 0x01 ∷ zeros 6 ∷ byte 0x02 ∷ zeros 47
    ∷ byte 0x01 ∷ byte 0x03 ∷ byte 0x04 ∷ byte 0x0D ∷ zeros 4 ∷ text "!}}!" ∷ zeros 20 ∷ text "!}}}!}!}!!!!!" ∷ zeros 19
    ∷ text "!}}}!}!}!!!!!}}!}" ∷ blanks 7 ∷ text "N" ∷ byte 0x01 ∷ zeros 6 ∷ byte 0x04 ∷ zeros 7
    ∷ text "!}}}!}!}!!!!!}}!}}}!!!}" ∷ byte 0x20 ∷ byte 0xBC ∷ byte 0xC0 ∷ byte 0xAB ∷ text "A" ∷ byte 0xFC ∷ text "."
    ∷ byte 0x13 ∷ text "T" ∷ byte 0xFF ∷ byte 0xFF ∷ byte 0xFF ∷ byte 0xFF ∷ byte 0xFF ∷ byte 0xFF ∷ byte 0xFF
    ∷ byte 0xFF
    ∷ zeros 144 ∷ []

abbrev pub file126 : Parts
file126 =
    text "TKF" ∷ byte 0x02 ∷ byte 0x00 ∷ byte 0x02 ∷ byte 0x04 ∷ zeros 9
    ∷ byte 0x01 ∷ byte 0x01 ∷ byte 0x00 ∷ byte 0x02 ∷ zeros 28 ∷ text "aa" ∷ zeros 30 ∷ text "aaab" ∷ blanks 20
    ∷ text "Ia" ∷ byte 0xB4 ∷ byte 0xD2 ∷ byte 0xE1 ∷ byte 0xB3 ∷ text "vv" ∷ zeros 32
    ∷ byte 0x01 ∷ byte 0x01 ∷ byte 0x02 ∷ zeros 5 ∷ text "aa" ∷ zeros 54 ∷ text "ab" ∷ blanks 22 ∷ byte 0x8D ∷ byte 0xB8
    ∷ text "EAr" ∷ byte 0xE3 ∷ byte 0x1C ∷ byte 0x0C ∷ zeros 32
    ∷ zeros 128
    ∷ zeros 128 ∷ []

abbrev pub file127 : Parts
file127 =
    text "TKF" ∷ byte 0x03 ∷ byte 0x00 ∷ byte 0x02 ∷ byte 0x02 ∷ zeros 9
    ∷ byte 0x01 ∷ zeros 2 ∷ byte 0x03 ∷ zeros 28 ∷ text "io" ∷ byte 0x20 ∷ zeros 109
    ∷ byte 0x01 ∷ byte 0x02 ∷ byte 0x03 ∷ zeros 5 ∷ text "io" ∷ byte 0x20 ∷ zeros 53 ∷ text "ioii" ∷ blanks 20
    ∷ byte 0xA4 ∷ byte 0x01 ∷ zeros 14 ∷ text "ioioo" ∷ blanks 19 ∷ byte 0xBE ∷ byte 0x01 ∷ zeros 6 ∷ byte 0xFE
    ∷ byte 0xFF ∷ byte 0xFF ∷ byte 0xFF ∷ byte 0xFF ∷ byte 0xFF ∷ byte 0xFF ∷ byte 0xFF ∷ []

abbrev pub file128 : Parts
file128 =
    text "TKF" ∷ byte 0x02 ∷ byte 0x00 ∷ byte 0x02 ∷ byte 0x02 ∷ zeros 9
    ∷ byte 0x01 ∷ byte 0x02 ∷ byte 0x00 ∷ byte 0x05 ∷ zeros 28 ∷ text "tssrr" ∷ zeros 27 ∷ text "tssr" ∷ blanks 20
    ∷ byte 0x86 ∷ byte 0x03 ∷ zeros 6 ∷ text "tssrrr" ∷ blanks 18 ∷ text "?" ∷ byte 0x02 ∷ zeros 6
    ∷ byte 0x01 ∷ byte 0x02 ∷ byte 0x05 ∷ zeros 5 ∷ text "tssrr" ∷ zeros 51 ∷ text "tssrs" ∷ blanks 19 ∷ text "/"
    ∷ zeros 7 ∷ text "tssrtr" ∷ blanks 18 ∷ text "e" ∷ zeros 7 ∷ []

abbrev pub file129 : Parts
file129 =
    text "TKF" ∷ byte 0x03 ∷ byte 0x00 ∷ byte 0x02 ∷ byte 0x04 ∷ zeros 9
    ∷ byte 0x01 ∷ byte 0x01 ∷ byte 0x00 ∷ byte 0x02 ∷ zeros 28 ∷ text "!!" ∷ zeros 30 ∷ text "!!}" ∷ blanks 21
    ∷ byte 0xCD ∷ byte 0x01 ∷ zeros 6 ∷ byte 0xBB ∷ byte 0x85 ∷ text "_" ∷ byte 0xE0 ∷ byte 0xC6 ∷ byte 0xAB ∷ byte 0xDE
    ∷ byte 0x94 ∷ zeros 40
    ∷ byte 0x01 ∷ byte 0x02 ∷ byte 0x02 ∷ zeros 5 ∷ text "!!" ∷ zeros 54 ∷ text "!}" ∷ blanks 22 ∷ byte 0xA7 ∷ byte 0xCD
    ∷ byte 0xF0 ∷ text "u" ∷ byte 0xD9 ∷ byte 0xE1 ∷ byte 0x04 ∷ byte 0xEE ∷ byte 0x04 ∷ zeros 7 ∷ text "!}!"
    ∷ blanks 21 ∷ byte 0x13 ∷ byte 0x01 ∷ zeros 14
    ∷ byte 0x01 ∷ byte 0x01 ∷ byte 0x01 ∷ zeros 5 ∷ text "!" ∷ zeros 55 ∷ text "}}" ∷ blanks 22 ∷ byte 0x16 ∷ byte 0x03
    ∷ zeros 6 ∷ text "w" ∷ byte 0xDF ∷ text "{" ∷ byte 0x86 ∷ byte 0xCE ∷ text "s" ∷ byte 0x02 ∷ byte 0xA2 ∷ zeros 40
    ∷ zeros 144 ∷ []

abbrev pub file130 : Parts
file130 =
    text "TKF" ∷ byte 0x02 ∷ byte 0x00 ∷ byte 0x03 ∷ byte 0x03 ∷ byte 0x00 ∷ []

abbrev pub file131 : Parts
file131 =
    text "TKF" ∷ byte 0x02 ∷ byte 0x00 ∷ byte 0x02 ∷ byte 0x03 ∷ zeros 9
    ∷ byte 0x01 ∷ byte 0x02 ∷ byte 0x00 ∷ byte 0x04 ∷ zeros 28 ∷ text "bbba" ∷ zeros 28 ∷ text "bbb" ∷ blanks 21
    ∷ byte 0xC7 ∷ byte 0x02 ∷ zeros 6 ∷ text "bbbaab" ∷ blanks 18 ∷ byte 0x7E ∷ byte 0x02 ∷ zeros 6
    ∷ byte 0x01 ∷ byte 0x01 ∷ byte 0x04 ∷ zeros 5 ∷ text "bbba" ∷ zeros 52 ∷ text "bbbbb" ∷ blanks 19 ∷ byte 0x1C
    ∷ byte 0x02 ∷ zeros 38
    ∷ zeros 128 ∷ []

abbrev pub file132 : Parts
file132 =
    text "TKF" ∷ byte 0x03 ∷ byte 0x00 ∷ byte 0x03 ∷ byte 0x02 ∷ zeros 9
    ∷ byte 0x01 ∷ byte 0x03 ∷ byte 0x00 ∷ byte 0x04 ∷ zeros 28 ∷ text "a}a!" ∷ zeros 9 ∷ byte 0x20 ∷ zeros 18
    ∷ text "a}a" ∷ blanks 21 ∷ byte 0xE6 ∷ zeros 7 ∷ byte 0x04 ∷ zeros 7 ∷ text "a}a!" ∷ blanks 20 ∷ text "Z"
    ∷ byte 0x02 ∷ zeros 6 ∷ byte 0x01 ∷ zeros 7 ∷ text "a}a!}!" ∷ blanks 18 ∷ text "3" ∷ byte 0x02 ∷ zeros 6 ∷ byte 0xFF
    ∷ byte 0xFF ∷ byte 0xFF ∷ byte 0xFF ∷ byte 0xFF ∷ byte 0xFF ∷ byte 0xFF ∷ byte 0xFF
    ∷ byte 0x01 ∷ byte 0x01 ∷ byte 0x05 ∷ zeros 5 ∷ text "a}a!" ∷ zeros 52 ∷ text "a}aa!" ∷ blanks 19 ∷ zeros 8
    ∷ byte 0x05 ∷ zeros 87 ∷ []

abbrev pub file133 : Parts
file133 =
    text "TKF" ∷ byte 0x02 ∷ byte 0x00 ∷ byte 0x02 ∷ byte 0x03 ∷ zeros 9
    ∷ byte 0x01 ∷ byte 0x02 ∷ byte 0x00 ∷ byte 0x02 ∷ zeros 28 ∷ text "a" ∷ byte 0x20 ∷ zeros 30 ∷ text "a" ∷ blanks 23
    ∷ text "J" ∷ byte 0x01 ∷ zeros 6 ∷ text "a" ∷ byte 0x20 ∷ text "b" ∷ blanks 21 ∷ text "[" ∷ byte 0x01 ∷ zeros 6
    ∷ byte 0x01 ∷ byte 0x02 ∷ byte 0x02 ∷ zeros 5 ∷ text "a" ∷ byte 0x20 ∷ zeros 54 ∷ text "ab" ∷ blanks 22 ∷ text "T"
    ∷ byte 0x02 ∷ zeros 6 ∷ text "bba" ∷ blanks 21 ∷ text "m" ∷ byte 0x01 ∷ zeros 6
    ∷ zeros 128 ∷ []

abbrev pub file134 : Parts
file134 =
    text "TKF" ∷ byte 0x01 ∷ byte 0x00 ∷ byte 0x02 ∷ byte 0x04 ∷ zeros 9
    ∷ byte 0x01 ∷ byte 0x02 ∷ byte 0x00 ∷ byte 0x05 ∷ zeros 28 ∷ text "rate2" ∷ zeros 27 ∷ text "rate1" ∷ blanks 19
    ∷ byte 0x01 ∷ zeros 7 ∷ text "rate2" ∷ blanks 19 ∷ byte 0x01 ∷ zeros 7
    ∷ byte 0x01 ∷ byte 0x01 ∷ byte 0x05 ∷ zeros 5 ∷ text "rate2" ∷ zeros 51 ∷ text "rate3" ∷ blanks 19 ∷ byte 0x01
    ∷ zeros 39
    ∷ zeros 128
    ∷ zeros 128 ∷ []

abbrev pub file135 : Parts
file135 =
    text "TKF" ∷ byte 0x03 ∷ byte 0x00 ∷ byte 0x02 ∷ byte 0x02 ∷ zeros 9
    ∷ zeros 144
    ∷ zeros 144 ∷ []

abbrev pub file136 : Parts
file136 =
    text "TKF" ∷ byte 0x03 ∷ byte 0x00 ∷ byte 0x03 ∷ byte 0x02 ∷ zeros 9
    ∷ byte 0x01 ∷ byte 0x03 ∷ zeros 62 ∷ text "a!" ∷ blanks 22 ∷ text "*" ∷ byte 0x03 ∷ zeros 6 ∷ byte 0x01 ∷ zeros 7
    ∷ text "}" ∷ blanks 23 ∷ byte 0x08 ∷ byte 0x01 ∷ zeros 6 ∷ byte 0x03 ∷ zeros 7 ∷ text "}}a" ∷ blanks 21 ∷ byte 0xB3
    ∷ byte 0x03 ∷ zeros 14
    ∷ zeros 184 ∷ []

abbrev pub file137 : Parts
file137 =
    text "TKF" ∷ byte 0x03 ∷ byte 0x00 ∷ byte 0x03 ∷ byte 0x02 ∷ zeros 9
    ∷ byte 0x01 ∷ byte 0x03 ∷ zeros 62 ∷ text "a!" ∷ blanks 22 ∷ text "*" ∷ byte 0x03 ∷ zeros 6 ∷ byte 0x01 ∷ zeros 7
    ∷ text "}" ∷ blanks 23 ∷ text "l%j" ∷ byte 0x5C ∷ byte 0x86 ∷ byte 0x0B ∷ byte 0x0A ∷ byte 0x17 ∷ byte 0x04
    ∷ zeros 7 ∷ text "}}a" ∷ blanks 21 ∷ byte 0xB3 ∷ byte 0x03 ∷ zeros 14
    ∷ zeros 184 ∷ []

abbrev pub file138 : Parts
file138 =
    text "TKF" ∷ byte 0x01 ∷ byte 0x00 ∷ byte 0x02 ∷ byte 0x04 ∷ zeros 9
    ∷ byte 0x01 ∷ byte 0x02 ∷ byte 0x00 ∷ byte 0x02 ∷ zeros 28 ∷ text "ii" ∷ zeros 30 ∷ text "i" ∷ blanks 23 ∷ byte 0x82
    ∷ byte 0x03 ∷ zeros 6 ∷ text "iii" ∷ blanks 21 ∷ byte 0x13 ∷ zeros 7
    ∷ byte 0x01 ∷ byte 0x01 ∷ byte 0x02 ∷ zeros 5 ∷ text "n" ∷ byte 0x20 ∷ zeros 54 ∷ text "ni" ∷ blanks 22 ∷ text "a"
    ∷ byte 0xAA ∷ byte 0x13 ∷ byte 0xEA ∷ byte 0x80 ∷ byte 0x94 ∷ byte 0x7E ∷ byte 0xF8 ∷ zeros 32
    ∷ zeros 128
    ∷ byte 0x01 ∷ byte 0x01 ∷ byte 0x02 ∷ byte 0x02 ∷ zeros 4 ∷ text "ii" ∷ zeros 22 ∷ text "n" ∷ byte 0x20 ∷ zeros 30
    ∷ text "n" ∷ blanks 23 ∷ text "&" ∷ zeros 39 ∷ []

abbrev pub file139 : Parts
file139 =
    text "TKF" ∷ byte 0x01 ∷ byte 0x00 ∷ byte 0x02 ∷ byte 0x04 ∷ zeros 9
    ∷ byte 0x01 ∷ byte 0x02 ∷ byte 0x00 ∷ byte 0x02 ∷ zeros 28 ∷ text "ii" ∷ zeros 30 ∷ text "i" ∷ blanks 23 ∷ byte 0x82
    ∷ byte 0x03 ∷ zeros 6 ∷ text "iii" ∷ blanks 21 ∷ byte 0x13 ∷ zeros 7
    ∷ byte 0x01 ∷ byte 0x01 ∷ byte 0x02 ∷ zeros 5 ∷ text "n" ∷ byte 0x20 ∷ zeros 54 ∷ text "ni" ∷ blanks 22 ∷ text "a"
    ∷ byte 0xAA ∷ byte 0x13 ∷ byte 0xEA ∷ byte 0x80 ∷ byte 0x94 ∷ byte 0x7E ∷ byte 0xF8 ∷ zeros 32
    ∷ zeros 128
    ∷ byte 0x01 ∷ byte 0x01 ∷ byte 0x02 ∷ byte 0x02 ∷ zeros 4 ∷ text "ii" ∷ zeros 22 ∷ text "n" ∷ byte 0x20 ∷ zeros 30
    ∷ text "n" ∷ blanks 23 ∷ byte 0x95 ∷ byte 0x03 ∷ zeros 38 ∷ []

abbrev pub file140 : Parts
file140 =
    text "TKF" ∷ byte 0x03 ∷ byte 0x00 ∷ byte 0x03 ∷ byte 0x04 ∷ zeros 9
    ∷ byte 0x01 ∷ byte 0x03 ∷ byte 0x00 ∷ byte 0x03 ∷ zeros 28 ∷ text "non" ∷ zeros 29 ∷ text "no" ∷ blanks 22
    ∷ byte 0xA4 ∷ byte 0x01 ∷ zeros 6 ∷ byte 0x04 ∷ zeros 7 ∷ text "non" ∷ blanks 21 ∷ text "h" ∷ byte 0x02 ∷ zeros 6
    ∷ byte 0x02 ∷ zeros 7 ∷ text "nonn" ∷ blanks 20 ∷ text "u" ∷ zeros 7 ∷ byte 0x8B ∷ byte 0xF3 ∷ byte 0xDB ∷ text "9o"
    ∷ byte 0x19 ∷ byte 0x0E ∷ byte 0x91
    ∷ byte 0x01 ∷ byte 0x02 ∷ byte 0x03 ∷ zeros 5 ∷ text "non" ∷ zeros 53 ∷ text "noo" ∷ blanks 21 ∷ byte 0x9C ∷ zeros 7
    ∷ byte 0x02 ∷ zeros 7 ∷ text "nooo" ∷ blanks 20 ∷ byte 0xA2 ∷ byte 0xC0 ∷ text "j" ∷ byte 0x95 ∷ byte 0x1C
    ∷ text "S`" ∷ byte 0x08 ∷ text "X" ∷ byte 0xA6 ∷ byte 0xCA ∷ byte 0x9A ∷ byte 0xF6 ∷ byte 0xAA ∷ byte 0x94
    ∷ text "m" ∷ zeros 40
    ∷ zeros 184
    ∷ zeros 184 ∷ []

abbrev pub file141 : Parts
file141 =
    text "TKF" ∷ byte 0x03 ∷ byte 0x00 ∷ byte 0x03 ∷ byte 0x04 ∷ zeros 9
    ∷ byte 0x01 ∷ byte 0x03 ∷ byte 0x00 ∷ byte 0x03 ∷ zeros 28 ∷ text "non" ∷ zeros 29 ∷ text "no" ∷ blanks 22
    ∷ byte 0xA4 ∷ byte 0x01 ∷ zeros 6 ∷ byte 0x04 ∷ zeros 7 ∷ text "non" ∷ blanks 21 ∷ text "h" ∷ byte 0x02 ∷ zeros 6
    ∷ byte 0x02 ∷ zeros 7 ∷ text "nonn" ∷ blanks 20 ∷ text "u" ∷ zeros 7 ∷ byte 0x8B ∷ byte 0xF3 ∷ byte 0xDB ∷ text "9o"
    ∷ byte 0x19 ∷ byte 0x0E ∷ byte 0x91
    ∷ byte 0x01 ∷ byte 0x02 ∷ byte 0x03 ∷ zeros 5 ∷ text "non" ∷ zeros 53 ∷ text "noo" ∷ blanks 21 ∷ text "_"
    ∷ byte 0x07 ∷ byte 0x06 ∷ text "c" ∷ byte 0x12 ∷ byte 0xC0 ∷ text "<" ∷ byte 0xC5 ∷ byte 0xFE ∷ byte 0xFF
    ∷ byte 0xFF ∷ byte 0xFF ∷ byte 0xFF ∷ byte 0xFF ∷ byte 0xFF ∷ byte 0xFF ∷ text "nooo" ∷ blanks 20 ∷ byte 0xA2
    ∷ byte 0xC0 ∷ text "j" ∷ byte 0x95 ∷ byte 0x1C ∷ text "S`" ∷ byte 0x08 ∷ text "X" ∷ byte 0xA6 ∷ byte 0xCA
    ∷ byte 0x9A ∷ byte 0xF6 ∷ byte 0xAA ∷ byte 0x94 ∷ text "m" ∷ zeros 40
    ∷ zeros 184
    ∷ zeros 184 ∷ []

abbrev pub file142 : Parts
file142 =
    text "TKF" ∷ byte 0x02 ∷ byte 0x00 ∷ byte 0x03 ∷ byte 0x02 ∷ zeros 9
    ∷ byte 0x01 ∷ byte 0x03 ∷ zeros 62 ∷ text "srsss" ∷ blanks 19 ∷ byte 0xF1 ∷ zeros 7 ∷ text "srsssts" ∷ blanks 17
    ∷ text "P" ∷ byte 0x01 ∷ zeros 6 ∷ text "srsstt" ∷ blanks 18 ∷ byte 0x7F ∷ byte 0xF3 ∷ byte 0xE8 ∷ byte 0x89
    ∷ byte 0x94 ∷ byte 0xF3 ∷ byte 0xDF ∷ text "L"
    ∷ zeros 160 ∷ []

abbrev pub file143 : Parts
file143 =
    text "TKF" ∷ byte 0x02 ∷ byte 0x00 ∷ byte 0x03 ∷ byte 0x02 ∷ zeros 9
    ∷ byte 0x01 ∷ byte 0x03 ∷ byte 0x00 ∷ byte 0x05 ∷ zeros 28 ∷ text "srsss" ∷ zeros 27 ∷ text "srsss" ∷ blanks 19
    ∷ byte 0xF1 ∷ zeros 7 ∷ text "srsssrt" ∷ blanks 17 ∷ text "K" ∷ zeros 7 ∷ text "srsssts" ∷ blanks 17 ∷ text "P"
    ∷ byte 0x01 ∷ zeros 6
    ∷ byte 0x01 ∷ byte 0x01 ∷ byte 0x05 ∷ zeros 5 ∷ text "srsss" ∷ zeros 51 ∷ text "srsstt" ∷ blanks 18 ∷ byte 0x7F
    ∷ byte 0xF3 ∷ byte 0xE8 ∷ byte 0x89 ∷ byte 0x94 ∷ byte 0xF3 ∷ byte 0xDF ∷ text "L" ∷ zeros 64 ∷ []

abbrev pub file144 : Parts
file144 =
    text "TKF" ∷ byte 0x02 ∷ byte 0x00 ∷ byte 0x03 ∷ byte 0x03 ∷ zeros 9
    ∷ byte 0x01 ∷ byte 0x02 ∷ zeros 62 ∷ text "sts" ∷ blanks 21 ∷ text "k" ∷ zeros 7 ∷ text "t" ∷ blanks 23 ∷ byte 0xBC
    ∷ text "!" ∷ byte 0xBF ∷ text "j" ∷ byte 0xB2 ∷ byte 0x88 ∷ text "H" ∷ byte 0xA7 ∷ zeros 32
    ∷ zeros 160
    ∷ zeros 160 ∷ []

abbrev pub file145 : Parts
file145 =
    text "TKF" ∷ byte 0x02 ∷ byte 0x00 ∷ byte 0x03 ∷ byte 0x03 ∷ zeros 9
    ∷ byte 0x01 ∷ byte 0x03 ∷ zeros 62 ∷ text "r" ∷ blanks 23 ∷ byte 0xB1 ∷ zeros 7 ∷ text "sts" ∷ blanks 21 ∷ text "k"
    ∷ zeros 7 ∷ text "t" ∷ blanks 23 ∷ byte 0xBC ∷ text "!" ∷ byte 0xBF ∷ text "j" ∷ byte 0xB2 ∷ byte 0x88 ∷ text "H"
    ∷ byte 0xA7
    ∷ zeros 160
    ∷ zeros 160 ∷ []

abbrev pub file146 : Parts
file146 =
    text "TKF" ∷ byte 0x01 ∷ byte 0x00 ∷ byte 0x02 ∷ byte 0x03 ∷ zeros 9
    ∷ byte 0x01 ∷ byte 0x02 ∷ zeros 62 ∷ text "a" ∷ blanks 23 ∷ text "{" ∷ byte 0x01 ∷ zeros 6 ∷ text "ab" ∷ blanks 22
    ∷ text "O" ∷ byte 0x01 ∷ zeros 6
    ∷ zeros 128
    ∷ zeros 128 ∷ []

abbrev pub file147 : Parts
file147 =
    text "TKF" ∷ byte 0x02 ∷ byte 0x00 ∷ byte 0x02 ∷ byte 0x04 ∷ zeros 9
    ∷ byte 0x01 ∷ byte 0x02 ∷ zeros 62 ∷ text "!a" ∷ blanks 22 ∷ byte 0xD7 ∷ byte 0x01 ∷ zeros 6 ∷ text "a" ∷ blanks 23
    ∷ text "|" ∷ byte 0x01 ∷ zeros 6
    ∷ zeros 128
    ∷ zeros 128
    ∷ zeros 128 ∷ []

abbrev pub file148 : Parts
file148 =
    text "TKF" ∷ byte 0x02 ∷ byte 0x00 ∷ byte 0x02 ∷ byte 0x04 ∷ zeros 9
    ∷ byte 0x01 ∷ byte 0x02 ∷ zeros 62 ∷ text "!a" ∷ blanks 22 ∷ byte 0xFD ∷ zeros 7 ∷ text "a" ∷ blanks 23 ∷ text "|"
    ∷ byte 0x01 ∷ zeros 6
    ∷ zeros 128
    ∷ zeros 128
    ∷ zeros 128 ∷ []

abbrev pub file149 : Parts
file149 =
    text "TKF" ∷ byte 0x02 ∷ byte 0x00 ∷ byte 0x02 ∷ byte 0x02 ∷ zeros 9
    ∷ byte 0x01 ∷ byte 0x02 ∷ byte 0x00 ∷ byte 0x01 ∷ zeros 28 ∷ text "a" ∷ zeros 31 ∷ text "a" ∷ byte 0x20 ∷ text "b"
    ∷ blanks 14 ∷ byte 0x8B ∷ blanks 6 ∷ byte 0xA4 ∷ byte 0x03 ∷ zeros 6 ∷ text "aba" ∷ blanks 21 ∷ byte 0x0D ∷ zeros 7
    ∷ byte 0x01 ∷ byte 0x01 ∷ byte 0x01 ∷ zeros 5 ∷ text "a" ∷ zeros 55 ∷ text "bb" ∷ blanks 22 ∷ text "h" ∷ byte 0x03
    ∷ zeros 38 ∷ []

abbrev pub file150 : Parts
file150 =
    text "TKF" ∷ byte 0x01 ∷ byte 0x00 ∷ byte 0x02 ∷ byte 0x02 ∷ zeros 9
    ∷ byte 0x01 ∷ byte 0x02 ∷ zeros 62 ∷ text "rr" ∷ blanks 22 ∷ text "M" ∷ zeros 7 ∷ text "rt" ∷ blanks 22 ∷ text "q"
    ∷ zeros 7
    ∷ byte 0x01 ∷ byte 0x01 ∷ byte 0x01 ∷ zeros 5 ∷ text "r" ∷ zeros 55 ∷ text "srs" ∷ blanks 21 ∷ byte 0x8D ∷ byte 0x02
    ∷ zeros 38 ∷ []

abbrev pub file151 : Parts
file151 =
    text "TKF" ∷ byte 0x03 ∷ byte 0x00 ∷ byte 0x02 ∷ byte 0x03 ∷ zeros 9
    ∷ byte 0x01 ∷ byte 0x02 ∷ byte 0x05 ∷ byte 0x05 ∷ zeros 4 ∷ text "ioon" ∷ byte 0x20 ∷ zeros 19 ∷ text "ioonn"
    ∷ zeros 27 ∷ text "ioonn" ∷ blanks 19 ∷ text "." ∷ zeros 7 ∷ byte 0x03 ∷ zeros 7 ∷ text "ioonni" ∷ blanks 18
    ∷ text "n" ∷ byte 0x01 ∷ zeros 6 ∷ byte 0x05 ∷ zeros 7
    ∷ byte 0x01 ∷ byte 0x01 ∷ byte 0x00 ∷ byte 0x05 ∷ zeros 28 ∷ text "ioon" ∷ byte 0x20 ∷ zeros 27 ∷ text "ioon"
    ∷ blanks 20 ∷ byte 0xC7 ∷ byte 0x96 ∷ byte 0xEE ∷ text "AL" ∷ byte 0xA3 ∷ byte 0x87 ∷ byte 0xAD ∷ byte 0x03
    ∷ zeros 47
    ∷ byte 0x01 ∷ byte 0x02 ∷ byte 0x05 ∷ zeros 5 ∷ text "ioonn" ∷ zeros 51 ∷ text "ioono" ∷ blanks 19 ∷ text "6"
    ∷ byte 0x02 ∷ zeros 6 ∷ byte 0x04 ∷ zeros 7 ∷ text "ioonon" ∷ blanks 18 ∷ text "<" ∷ byte 0xE9 ∷ byte 0xC5
    ∷ text "$" ∷ byte 0xF0 ∷ text "*m" ∷ byte 0x10 ∷ zeros 8 ∷ []

abbrev pub file152 : Parts
file152 =
    text "TKF" ∷ byte 0x03 ∷ byte 0x00 ∷ byte 0x02 ∷ byte 0x04 ∷ zeros 9
    ∷ byte 0x01 ∷ byte 0x01 ∷ byte 0x00 ∷ byte 0x03 ∷ zeros 28 ∷ text "bb" ∷ byte 0x20 ∷ zeros 29 ∷ text "bb"
    ∷ blanks 22 ∷ text "q" ∷ byte 0x01 ∷ zeros 6 ∷ byte 0x05 ∷ zeros 47
    ∷ byte 0x01 ∷ byte 0x02 ∷ byte 0x03 ∷ byte 0x04 ∷ zeros 4 ∷ text "bb" ∷ byte 0x20 ∷ zeros 21 ∷ text "bbba"
    ∷ zeros 28 ∷ text "bbba" ∷ blanks 20 ∷ byte 0x82 ∷ byte 0xFD ∷ byte 0x09 ∷ byte 0xF9 ∷ text "k" ∷ byte 0xF2
    ∷ byte 0x91 ∷ byte 0x03 ∷ byte 0x02 ∷ zeros 7 ∷ text "bbbaaa" ∷ blanks 18 ∷ byte 0xE5 ∷ byte 0x03 ∷ zeros 6
    ∷ byte 0x01 ∷ zeros 7
    ∷ byte 0x01 ∷ byte 0x02 ∷ byte 0x04 ∷ zeros 5 ∷ text "bbba" ∷ zeros 52 ∷ text "bbbb" ∷ blanks 20 ∷ text "5"
    ∷ byte 0x0E ∷ text "0k;" ∷ byte 0x87 ∷ byte 0xDF ∷ byte 0xCC ∷ zeros 8 ∷ text "bbbba" ∷ blanks 19 ∷ text "7"
    ∷ byte 0x02 ∷ zeros 14
    ∷ zeros 144 ∷ []

abbrev pub file153 : Parts
file153 =
    text "TKF" ∷ byte 0x01 ∷ byte 0x00 ∷ byte 0x02 ∷ byte 0x04 ∷ zeros 9
    ∷ byte 0x01 ∷ byte 0x02 ∷ zeros 62 ∷ text "trt" ∷ blanks 21 ∷ byte 0xE0 ∷ byte 0x03 ∷ zeros 6 ∷ text "trts"
    ∷ blanks 20 ∷ byte 0xC5 ∷ byte 0xD5 ∷ text "_" ∷ byte 0xCC ∷ byte 0xF9 ∷ byte 0xE3 ∷ text "hf"
    ∷ byte 0x01 ∷ byte 0x01 ∷ byte 0x04 ∷ zeros 5 ∷ text "trts" ∷ zeros 52 ∷ text "trttst" ∷ blanks 18 ∷ byte 0x7F
    ∷ byte 0x02 ∷ zeros 38
    ∷ zeros 128
    ∷ zeros 128 ∷ []

abbrev pub file154 : Parts
file154 =
    text "TKF" ∷ byte 0x02 ∷ byte 0x00 ∷ byte 0x03 ∷ byte 0x04 ∷ zeros 9
    ∷ byte 0x01 ∷ zeros 159
    ∷ zeros 160
    ∷ zeros 160
    ∷ zeros 160 ∷ []

abbrev pub file155 : Parts
file155 =
    text "TKF" ∷ byte 0x02 ∷ byte 0x00 ∷ byte 0x03 ∷ byte 0x04 ∷ zeros 9
    ∷ byte 0x01 ∷ byte 0x01 ∷ zeros 62 ∷ text "ii" ∷ blanks 22 ∷ byte 0xB4 ∷ text "L" ∷ byte 0xD6 ∷ byte 0x11
    ∷ byte 0xD3 ∷ text "X" ∷ byte 0xDD ∷ text ":" ∷ zeros 64
    ∷ zeros 160
    ∷ zeros 160
    ∷ zeros 160 ∷ []

abbrev pub file156 : Parts
file156 =
    text "TKF" ∷ byte 0x02 ∷ byte 0x00 ∷ byte 0x03 ∷ byte 0x02 ∷ zeros 9
    ∷ byte 0x01 ∷ byte 0x02 ∷ zeros 62 ∷ text "}" ∷ blanks 23 ∷ text "V" ∷ byte 0x02 ∷ zeros 6 ∷ text "}}a" ∷ blanks 21
    ∷ byte 0xB8 ∷ zeros 39
    ∷ zeros 160 ∷ []

abbrev pub file157 : Parts
file157 =
    text "TKF" ∷ byte 0x02 ∷ byte 0x00 ∷ byte 0x03 ∷ byte 0x02 ∷ zeros 9
    ∷ byte 0x01 ∷ byte 0x03 ∷ zeros 62 ∷ text "}" ∷ blanks 23 ∷ text "V" ∷ byte 0x02 ∷ zeros 6 ∷ text "}!" ∷ blanks 22
    ∷ byte 0xB7 ∷ text "d_" ∷ byte 0x8D ∷ byte 0x15 ∷ text "r" ∷ byte 0x90 ∷ byte 0xD5 ∷ text "}}a" ∷ blanks 21
    ∷ byte 0xB8 ∷ zeros 7
    ∷ zeros 160 ∷ []

abbrev pub file158 : Parts
file158 =
    text "TKF" ∷ byte 0x02 ∷ byte 0x00 ∷ byte 0x02 ∷ byte 0x03 ∷ zeros 9
    ∷ byte 0x01 ∷ byte 0x02 ∷ byte 0x00 ∷ byte 0x14 ∷ zeros 28 ∷ text "yyzzzxyzyyyxxzyzzzxx" ∷ zeros 12
    ∷ text "yyzzzxyzyyyxxzyzzzxxxz" ∷ blanks 2 ∷ byte 0x0C ∷ byte 0xF9 ∷ text "n_" ∷ byte 0xCA ∷ byte 0xC5 ∷ text "8"
    ∷ byte 0xA9 ∷ text "yyzzzxyzyyyxxzyzzzxxzz" ∷ blanks 2 ∷ text "}" ∷ byte 0x02 ∷ zeros 6
    ∷ byte 0x01 ∷ byte 0x02 ∷ byte 0x14 ∷ zeros 5 ∷ text "yyzzzxyzyyyxxzyzzzxx" ∷ zeros 36
    ∷ text "yyzzzxyzyyyxxzyzzzxyx" ∷ blanks 3 ∷ text "S" ∷ byte 0x03 ∷ zeros 6 ∷ text "yyzzzxyzyyyxxzyzzzxz" ∷ blanks 4
    ∷ byte 0x17 ∷ byte 0x86 ∷ byte 0xD0 ∷ byte 0x03 ∷ text "%e" ∷ byte 0xC0 ∷ byte 0x03
    ∷ zeros 128 ∷ []

abbrev pub file159 : Parts
file159 =
    text "TKF" ∷ byte 0x01 ∷ byte 0x00 ∷ byte 0x02 ∷ byte 0x04 ∷ zeros 9
    ∷ byte 0x01 ∷ byte 0x02 ∷ byte 0x00 ∷ byte 0x01 ∷ zeros 28 ∷ text "a" ∷ zeros 31 ∷ text "a" ∷ blanks 23 ∷ byte 0x99
    ∷ byte 0x03 ∷ zeros 6 ∷ text "ab" ∷ blanks 22 ∷ byte 0xD8 ∷ byte 0x09 ∷ text "V" ∷ byte 0xFC ∷ text "rf;"
    ∷ byte 0x07
    ∷ byte 0x01 ∷ byte 0x01 ∷ byte 0x01 ∷ zeros 5 ∷ text "a" ∷ zeros 55 ∷ text "b" ∷ blanks 23 ∷ text "j" ∷ byte 0xA0
    ∷ byte 0xC0 ∷ text "X" ∷ byte 0xD9 ∷ text ">" ∷ byte 0xF5 ∷ byte 0xD7 ∷ zeros 32
    ∷ zeros 128
    ∷ zeros 128 ∷ []

abbrev pub file160 : Parts
file160 =
    text "TKF" ∷ byte 0x01 ∷ byte 0x00 ∷ byte 0x02 ∷ byte 0x04 ∷ zeros 9
    ∷ byte 0x01 ∷ byte 0x02 ∷ byte 0x00 ∷ byte 0x01 ∷ zeros 28 ∷ text "a" ∷ zeros 31 ∷ text "a" ∷ blanks 23 ∷ text "."
    ∷ byte 0x03 ∷ zeros 6 ∷ text "ab" ∷ blanks 22 ∷ byte 0xD8 ∷ byte 0x09 ∷ text "V" ∷ byte 0xFC ∷ text "rf;"
    ∷ byte 0x07
    ∷ byte 0x01 ∷ byte 0x01 ∷ byte 0x01 ∷ zeros 5 ∷ text "a" ∷ zeros 55 ∷ text "b" ∷ blanks 23 ∷ text "j" ∷ byte 0xA0
    ∷ byte 0xC0 ∷ text "X" ∷ byte 0xD9 ∷ text ">" ∷ byte 0xF5 ∷ byte 0xD7 ∷ zeros 32
    ∷ zeros 128
    ∷ zeros 128 ∷ []

abbrev pub file161 : Parts
file161 =
    text "TKF" ∷ byte 0x03 ∷ byte 0x00 ∷ byte 0x03 ∷ byte 0x03 ∷ zeros 9
    ∷ byte 0x01 ∷ byte 0x01 ∷ byte 0x00 ∷ byte 0x0B ∷ zeros 28 ∷ text "nooononnoi" ∷ byte 0x20 ∷ zeros 21
    ∷ text "nooononnoi" ∷ blanks 14 ∷ byte 0x81 ∷ zeros 7 ∷ byte 0xFF ∷ byte 0xFF ∷ byte 0xFF ∷ byte 0xFF ∷ byte 0xFF
    ∷ byte 0xFF ∷ byte 0xFF ∷ byte 0xFF ∷ zeros 80
    ∷ byte 0x01 ∷ byte 0x03 ∷ byte 0x0B ∷ byte 0x0D ∷ zeros 4 ∷ text "nooononnoi" ∷ byte 0x20 ∷ zeros 13
    ∷ text "nooononnoioin" ∷ zeros 19 ∷ text "nooononnoioinnoiiiioio" ∷ blanks 2 ∷ byte 0xEF ∷ zeros 15
    ∷ text "nooononnoioinnoiiiion" ∷ blanks 3 ∷ text "P" ∷ zeros 7 ∷ byte 0x05 ∷ zeros 7 ∷ text "nooononnoioinnoiiiiooo"
    ∷ blanks 2 ∷ byte 0xDA ∷ text "K;AQ" ∷ byte 0xB5 ∷ byte 0xE8 ∷ byte 0x10 ∷ byte 0x04 ∷ zeros 7
    ∷ byte 0x01 ∷ byte 0x01 ∷ byte 0x0D ∷ zeros 5 ∷ text "nooononnoioin" ∷ zeros 43 ∷ text "nooononnoioio" ∷ blanks 11
    ∷ byte 0x81 ∷ text "|" ∷ byte 0xCA ∷ byte 0x84 ∷ text "Iu5" ∷ byte 0xC2 ∷ byte 0x05 ∷ zeros 87 ∷ []

abbrev pub file162 : Parts
file162 =
    text "TKF" ∷ byte 0x01 ∷ byte 0x00 ∷ byte 0x02 ∷ byte 0x02 ∷ zeros 9
    ∷ byte 0x01 ∷ byte 0x02 ∷ zeros 62 ∷ text "rrs" ∷ blanks 21 ∷ byte 0x9C ∷ byte 0x09 ∷ byte 0xD5 ∷ byte 0x11
    ∷ byte 0xF1 ∷ byte 0xAB ∷ byte 0x7F ∷ text "1rss" ∷ blanks 21 ∷ text "W" ∷ byte 0x02 ∷ zeros 6
    ∷ zeros 128 ∷ []

abbrev pub file163 : Parts
file163 =
    text "TKF" ∷ byte 0x01 ∷ byte 0x00 ∷ byte 0x02 ∷ byte 0x02 ∷ zeros 9
    ∷ byte 0x01 ∷ byte 0x02 ∷ zeros 62 ∷ text "rrs" ∷ blanks 21 ∷ byte 0x9C ∷ byte 0x09 ∷ byte 0xD5 ∷ byte 0x11
    ∷ byte 0xF1 ∷ byte 0xAB ∷ byte 0x7F ∷ text "1rss" ∷ blanks 21 ∷ text "W" ∷ byte 0x02 ∷ zeros 6
    ∷ byte 0x01 ∷ byte 0x01 ∷ byte 0x02 ∷ zeros 5 ∷ text "rs" ∷ zeros 54 ∷ text "rt" ∷ blanks 22 ∷ byte 0xB0 ∷ byte 0x02
    ∷ zeros 38 ∷ []

abbrev pub file164 : Parts
file164 =
    text "TKF" ∷ byte 0x01 ∷ byte 0x00 ∷ byte 0x02 ∷ byte 0x03 ∷ zeros 9
    ∷ byte 0x01 ∷ byte 0x02 ∷ byte 0x00 ∷ byte 0x02 ∷ zeros 28 ∷ text "z" ∷ byte 0x20 ∷ zeros 30 ∷ text "yy" ∷ blanks 22
    ∷ text "]" ∷ byte 0x01 ∷ zeros 6 ∷ text "z" ∷ blanks 23 ∷ zeros 8
    ∷ byte 0x01 ∷ byte 0x01 ∷ byte 0x02 ∷ zeros 5 ∷ text "zx" ∷ zeros 54 ∷ text "zzy" ∷ blanks 21 ∷ byte 0xF5 ∷ zeros 39
    ∷ byte 0x01 ∷ byte 0x01 ∷ byte 0x02 ∷ byte 0x02 ∷ zeros 4 ∷ text "z" ∷ byte 0x20 ∷ zeros 22 ∷ text "zx" ∷ zeros 30
    ∷ text "zx" ∷ blanks 22 ∷ byte 0x82 ∷ byte 0x03 ∷ zeros 38 ∷ []

abbrev pub file165 : Parts
file165 =
    text "TKF" ∷ byte 0x03 ∷ byte 0x00 ∷ byte 0x02 ∷ byte 0x03 ∷ zeros 9
    ∷ byte 0x01 ∷ byte 0x01 ∷ byte 0x00 ∷ byte 0x02 ∷ zeros 28 ∷ text "a" ∷ byte 0x20 ∷ zeros 30 ∷ text "a" ∷ blanks 23
    ∷ text "+" ∷ zeros 7 ∷ byte 0x02 ∷ zeros 47
    ∷ byte 0x01 ∷ byte 0x01 ∷ byte 0x02 ∷ zeros 5 ∷ text "aa" ∷ zeros 54 ∷ text "abba" ∷ blanks 21 ∷ byte 0x01 ∷ zeros 6
    ∷ byte 0xED ∷ text "t" ∷ byte 0x86 ∷ byte 0x19 ∷ text "W" ∷ byte 0x94 ∷ text ".r" ∷ zeros 40
    ∷ byte 0x01 ∷ byte 0x02 ∷ byte 0x02 ∷ byte 0x02 ∷ zeros 4 ∷ text "a" ∷ byte 0x20 ∷ zeros 22 ∷ text "aa" ∷ zeros 30
    ∷ text "aaa" ∷ blanks 21 ∷ text "{" ∷ byte 0x01 ∷ zeros 6 ∷ byte 0x03 ∷ zeros 7 ∷ text "aab" ∷ blanks 21 ∷ byte 0x1B
    ∷ byte 0x01 ∷ zeros 14 ∷ []

abbrev pub file166 : Parts
file166 =
    text "TKF" ∷ byte 0x03 ∷ byte 0x00 ∷ byte 0x03 ∷ byte 0x02 ∷ zeros 9
    ∷ byte 0x01 ∷ byte 0x01 ∷ byte 0x00 ∷ byte 0x01 ∷ zeros 28 ∷ text "r" ∷ zeros 31 ∷ text "r" ∷ blanks 23 ∷ byte 0x19
    ∷ zeros 95
    ∷ byte 0x01 ∷ byte 0x03 ∷ byte 0x01 ∷ zeros 5 ∷ text "r" ∷ zeros 55 ∷ text "t" ∷ blanks 23 ∷ byte 0x85 ∷ zeros 7
    ∷ byte 0x01 ∷ zeros 7 ∷ text "tr" ∷ blanks 22 ∷ byte 0xCF ∷ zeros 7 ∷ byte 0xFE ∷ byte 0xFF ∷ byte 0xFF ∷ byte 0xFF
    ∷ byte 0xFF ∷ byte 0xFF ∷ byte 0xFF ∷ byte 0xFF ∷ text "tt" ∷ blanks 22 ∷ byte 0x13 ∷ byte 0x02 ∷ zeros 14 ∷ []

abbrev pub file167 : Parts
file167 =
    text "TKF" ∷ byte 0x03 ∷ byte 0x00 ∷ byte 0x02 ∷ byte 0x04 ∷ zeros 9
    ∷ byte 0x01 ∷ byte 0x02 ∷ byte 0x00 ∷ byte 0x05 ∷ zeros 28 ∷ text "iin" ∷ byte 0x20 ∷ text "i" ∷ zeros 27
    ∷ text "iin" ∷ blanks 21 ∷ text "G" ∷ zeros 7 ∷ byte 0x03 ∷ zeros 7 ∷ text "iin" ∷ byte 0x20 ∷ text "i" ∷ blanks 19
    ∷ zeros 8 ∷ text ",|" ∷ byte 0x93 ∷ byte 0x1A ∷ text "pG" ∷ byte 0xF6 ∷ byte 0x14
    ∷ byte 0x01 ∷ byte 0x02 ∷ byte 0x04 ∷ zeros 5 ∷ text "iin" ∷ byte 0x20 ∷ zeros 52 ∷ text "iini" ∷ blanks 20
    ∷ byte 0xC6 ∷ byte 0x95 ∷ byte 0xEB ∷ text "C" ∷ byte 0xA0 ∷ byte 0x80 ∷ text "9{" ∷ byte 0xFE ∷ byte 0xFF
    ∷ byte 0xFF ∷ byte 0xFF ∷ byte 0xFF ∷ byte 0xFF ∷ byte 0xFF ∷ byte 0xFF ∷ text "iinn" ∷ blanks 20 ∷ byte 0xF8
    ∷ byte 0x02 ∷ zeros 6 ∷ byte 0x02 ∷ zeros 7
    ∷ byte 0x01 ∷ byte 0x01 ∷ byte 0x05 ∷ byte 0x04 ∷ zeros 4 ∷ text "iin" ∷ byte 0x20 ∷ text "i" ∷ zeros 19
    ∷ text "iin" ∷ byte 0x20 ∷ zeros 28 ∷ text "iin" ∷ byte 0x20 ∷ text "nn" ∷ blanks 18 ∷ byte 0x86 ∷ zeros 7
    ∷ byte 0x05 ∷ zeros 47
    ∷ zeros 144 ∷ []

abbrev pub file168 : Parts
file168 =
    text "TKF" ∷ byte 0x01 ∷ byte 0x00 ∷ byte 0x03 ∷ byte 0x03 ∷ zeros 9
    ∷ byte 0x01 ∷ byte 0x03 ∷ byte 0x00 ∷ byte 0x02 ∷ zeros 28 ∷ text "!!" ∷ zeros 30 ∷ text "!!!" ∷ blanks 21
    ∷ byte 0xBA ∷ zeros 7 ∷ text "!!!!" ∷ blanks 20 ∷ text "Wq" ∷ byte 0xE0 ∷ byte 0x04 ∷ byte 0x1E ∷ byte 0xCD
    ∷ byte 0xAB ∷ text "C!!}" ∷ blanks 21 ∷ byte 0x13 ∷ text "G" ∷ byte 0x89 ∷ byte 0xE0 ∷ text "RA&w"
    ∷ byte 0x01 ∷ byte 0x03 ∷ byte 0x02 ∷ zeros 5 ∷ text "!!" ∷ zeros 54 ∷ text "!}!}" ∷ blanks 20 ∷ text "7"
    ∷ byte 0xC4 ∷ byte 0xCF ∷ byte 0xEA ∷ byte 0x83 ∷ byte 0x12 ∷ byte 0xF3 ∷ byte 0xCB ∷ text "!}}!!}}" ∷ blanks 17
    ∷ byte 0xB4 ∷ zeros 7 ∷ text "!}}}!}" ∷ blanks 18 ∷ byte 0xBE ∷ zeros 7
    ∷ zeros 160 ∷ []

abbrev pub file169 : Parts
file169 =
    text "TKF" ∷ byte 0x01 ∷ byte 0x00 ∷ byte 0x03 ∷ byte 0x03 ∷ zeros 9
    ∷ byte 0x01 ∷ byte 0x03 ∷ byte 0x00 ∷ byte 0x02 ∷ zeros 28 ∷ text "!!" ∷ zeros 30 ∷ text "!!!" ∷ blanks 21
    ∷ byte 0xBA ∷ zeros 7 ∷ text "!!!!" ∷ blanks 20 ∷ text "Wq" ∷ byte 0xE0 ∷ byte 0x04 ∷ byte 0x1E ∷ byte 0xCD
    ∷ byte 0xAB ∷ text "C!!}" ∷ blanks 21 ∷ byte 0x13 ∷ text "G" ∷ byte 0x89 ∷ byte 0xE0 ∷ text "RA&w"
    ∷ byte 0x01 ∷ byte 0x02 ∷ byte 0x02 ∷ byte 0x04 ∷ zeros 4 ∷ text "!!" ∷ zeros 22 ∷ text "!}}" ∷ byte 0x20 ∷ zeros 28
    ∷ text "!}!}" ∷ blanks 20 ∷ text "7" ∷ byte 0xC4 ∷ byte 0xCF ∷ byte 0xEA ∷ byte 0x83 ∷ byte 0x12 ∷ byte 0xF3
    ∷ byte 0xCB ∷ text "!}}" ∷ blanks 21 ∷ text "k" ∷ byte 0x83 ∷ byte 0xE0 ∷ byte 0xCA ∷ byte 0x01 ∷ text "d"
    ∷ byte 0x0C ∷ byte 0xB3 ∷ zeros 32
    ∷ byte 0x01 ∷ byte 0x02 ∷ byte 0x04 ∷ zeros 5 ∷ text "!}}" ∷ byte 0x20 ∷ zeros 52 ∷ text "!}}!!}}" ∷ blanks 17
    ∷ byte 0xB4 ∷ zeros 7 ∷ text "!}}}!}" ∷ blanks 18 ∷ byte 0xBE ∷ zeros 39 ∷ []

abbrev pub file170 : Parts
file170 =
    text "TKF" ∷ byte 0x03 ∷ byte 0x00 ∷ byte 0x02 ∷ byte 0x03 ∷ zeros 9
    ∷ byte 0x01 ∷ byte 0x02 ∷ byte 0x00 ∷ byte 0x03 ∷ zeros 28 ∷ text "}}!" ∷ zeros 29 ∷ text "}!!" ∷ blanks 21
    ∷ byte 0x96 ∷ zeros 15 ∷ text "}}!" ∷ blanks 21 ∷ byte 0x84 ∷ byte 0x84 ∷ byte 0x80 ∷ byte 0x1F ∷ byte 0xEF
    ∷ byte 0xB5 ∷ text "%6" ∷ byte 0xFE ∷ byte 0xFF ∷ byte 0xFF ∷ byte 0xFF ∷ byte 0xFF ∷ byte 0xFF ∷ byte 0xFF
    ∷ byte 0xFF
    ∷ byte 0x01 ∷ byte 0x01 ∷ byte 0x03 ∷ zeros 5 ∷ text "}}!" ∷ zeros 53 ∷ text "}}}" ∷ blanks 21 ∷ byte 0xFC ∷ zeros 7
    ∷ byte 0xFE ∷ byte 0xFF ∷ byte 0xFF ∷ byte 0xFF ∷ byte 0xFF ∷ byte 0xFF ∷ byte 0xFF ∷ byte 0xFF ∷ zeros 40
    ∷ zeros 144 ∷ []

abbrev pub file171 : Parts
file171 =
    text "TKF" ∷ byte 0x01 ∷ byte 0x00 ∷ byte 0x02 ∷ byte 0x04 ∷ zeros 9
    ∷ byte 0x01 ∷ byte 0x02 ∷ byte 0x00 ∷ byte 0x04 ∷ zeros 28 ∷ text "a" ∷ byte 0x20 ∷ text "aa" ∷ zeros 28 ∷ text "a"
    ∷ byte 0x20 ∷ text "a" ∷ blanks 21 ∷ byte 0x87 ∷ zeros 7 ∷ text "a" ∷ byte 0x20 ∷ text "aaa" ∷ blanks 19 ∷ byte 0x17
    ∷ byte 0x01 ∷ zeros 6
    ∷ byte 0x01 ∷ byte 0x02 ∷ byte 0x03 ∷ zeros 5 ∷ text "a" ∷ byte 0x20 ∷ text "a" ∷ zeros 53 ∷ text "a" ∷ byte 0x20
    ∷ text "b" ∷ blanks 21 ∷ text "l" ∷ byte 0x02 ∷ zeros 6 ∷ text "a" ∷ byte 0x20 ∷ text "ba" ∷ blanks 20 ∷ byte 0x1B
    ∷ byte 0x22 ∷ byte 0x02 ∷ byte 0x15 ∷ text "z" ∷ byte 0xAF ∷ byte 0xFA ∷ byte 0xFE
    ∷ byte 0x01 ∷ byte 0x01 ∷ byte 0x04 ∷ byte 0x03 ∷ zeros 4 ∷ text "a" ∷ byte 0x20 ∷ text "aa" ∷ zeros 20 ∷ text "a"
    ∷ byte 0x20 ∷ text "a" ∷ zeros 29 ∷ text "a" ∷ byte 0x20 ∷ text "ab" ∷ blanks 20 ∷ text "X" ∷ zeros 39
    ∷ zeros 128 ∷ []

abbrev pub file172 : Parts
file172 =
    text "TKF" ∷ byte 0x01 ∷ byte 0x00 ∷ byte 0x02 ∷ byte 0x04 ∷ zeros 9
    ∷ byte 0x01 ∷ byte 0x02 ∷ byte 0x00 ∷ byte 0x05 ∷ zeros 28 ∷ text "a" ∷ byte 0x20 ∷ text "aaa" ∷ zeros 27 ∷ text "a"
    ∷ byte 0x20 ∷ text "a" ∷ blanks 21 ∷ byte 0x87 ∷ zeros 7 ∷ text "a" ∷ byte 0x20 ∷ text "aaa" ∷ blanks 19 ∷ byte 0x17
    ∷ byte 0x01 ∷ zeros 6
    ∷ byte 0x01 ∷ byte 0x02 ∷ byte 0x03 ∷ zeros 5 ∷ text "a" ∷ byte 0x20 ∷ text "a" ∷ zeros 53 ∷ text "a" ∷ byte 0x20
    ∷ text "b" ∷ blanks 21 ∷ text "l" ∷ byte 0x02 ∷ zeros 6 ∷ text "a" ∷ byte 0x20 ∷ text "ba" ∷ blanks 20 ∷ byte 0x1B
    ∷ byte 0x22 ∷ byte 0x02 ∷ byte 0x15 ∷ text "z" ∷ byte 0xAF ∷ byte 0xFA ∷ byte 0xFE
    ∷ byte 0x01 ∷ byte 0x01 ∷ byte 0x04 ∷ byte 0x03 ∷ zeros 4 ∷ text "a" ∷ byte 0x20 ∷ text "aa" ∷ zeros 20 ∷ text "a"
    ∷ byte 0x20 ∷ text "a" ∷ zeros 29 ∷ text "a" ∷ byte 0x20 ∷ text "ab" ∷ blanks 20 ∷ text "X" ∷ zeros 39
    ∷ byte 0x01 ∷ byte 0x01 ∷ byte 0x05 ∷ byte 0x04 ∷ zeros 4 ∷ text "a" ∷ byte 0x20 ∷ text "aaa" ∷ zeros 19 ∷ text "a"
    ∷ byte 0x20 ∷ text "aa" ∷ zeros 28 ∷ text "a" ∷ byte 0x20 ∷ text "aab" ∷ blanks 19 ∷ byte 0x09 ∷ byte 0x03
    ∷ zeros 38 ∷ []

abbrev pub file173 : Parts
file173 =
    text "TKF" ∷ byte 0x01 ∷ byte 0x00 ∷ byte 0x02 ∷ byte 0x02 ∷ zeros 9
    ∷ byte 0x01 ∷ byte 0x02 ∷ zeros 62 ∷ text "rt" ∷ blanks 22 ∷ byte 0xF4 ∷ text "Q;" ∷ byte 0xB5 ∷ byte 0xC5
    ∷ byte 0xB0 ∷ byte 0x80 ∷ byte 0xCB ∷ text "tt" ∷ blanks 22 ∷ byte 0x95 ∷ byte 0x02 ∷ zeros 6
    ∷ zeros 128 ∷ []

abbrev pub file174 : Parts
file174 =
    text "TKF" ∷ byte 0x01 ∷ byte 0x00 ∷ byte 0x02 ∷ byte 0x02 ∷ zeros 9
    ∷ byte 0x01 ∷ byte 0x02 ∷ zeros 62 ∷ text "rt" ∷ blanks 22 ∷ byte 0xF4 ∷ text "Q;" ∷ byte 0xB5 ∷ byte 0xC5
    ∷ byte 0xB0 ∷ byte 0x80 ∷ byte 0xCB ∷ text "tt" ∷ blanks 22 ∷ byte 0x95 ∷ byte 0x02 ∷ zeros 6
    ∷ byte 0x01 ∷ byte 0x01 ∷ byte 0x01 ∷ zeros 5 ∷ text "r" ∷ zeros 55 ∷ text "tt" ∷ blanks 22 ∷ byte 0x95 ∷ byte 0x02
    ∷ zeros 38 ∷ []

abbrev pub file175 : Parts
file175 =
    text "TKF" ∷ byte 0x03 ∷ byte 0x00 ∷ byte 0x02 ∷ byte 0x04 ∷ zeros 9
    ∷ byte 0x01 ∷ byte 0x01 ∷ byte 0x00 ∷ byte 0x03 ∷ zeros 28 ∷ text "a" ∷ blanks 2 ∷ zeros 29 ∷ text "a" ∷ blanks 2
    ∷ text "ba" ∷ blanks 19 ∷ byte 0x89 ∷ byte 0x03 ∷ zeros 6 ∷ byte 0x05 ∷ zeros 47
    ∷ byte 0x01 ∷ byte 0x02 ∷ byte 0x03 ∷ zeros 5 ∷ text "a" ∷ byte 0x20 ∷ text "a" ∷ zeros 53 ∷ text "a" ∷ byte 0x20
    ∷ text "b" ∷ blanks 21 ∷ text "*" ∷ byte 0xCC ∷ text ")" ∷ byte 0x93 ∷ text "'" ∷ byte 0xDB ∷ text "D" ∷ byte 0xDD
    ∷ byte 0x97 ∷ text "+" ∷ byte 0x15 ∷ byte 0x84 ∷ text "3" ∷ byte 0xAA ∷ text "'" ∷ byte 0xC3 ∷ text "a" ∷ byte 0x20
    ∷ text "baa" ∷ blanks 19 ∷ byte 0x14 ∷ byte 0x03 ∷ zeros 6 ∷ byte 0xFE ∷ byte 0xFF ∷ byte 0xFF ∷ byte 0xFF
    ∷ byte 0xFF ∷ byte 0xFF ∷ byte 0xFF ∷ byte 0xFF
    ∷ byte 0x01 ∷ byte 0x02 ∷ byte 0x03 ∷ byte 0x03 ∷ zeros 4 ∷ text "a" ∷ blanks 2 ∷ zeros 21 ∷ text "a" ∷ byte 0x20
    ∷ text "a" ∷ zeros 29 ∷ text "a" ∷ byte 0x20 ∷ text "a" ∷ blanks 21 ∷ byte 0xFF ∷ byte 0xFF ∷ byte 0xFF ∷ byte 0xFF
    ∷ byte 0xFF ∷ byte 0xFF ∷ byte 0xFF ∷ byte 0xFF ∷ byte 0xFF ∷ byte 0xFF ∷ byte 0xFF ∷ byte 0xFF ∷ byte 0xFF
    ∷ byte 0xFF ∷ byte 0xFF ∷ byte 0xFF ∷ text "a" ∷ byte 0x20 ∷ text "a" ∷ byte 0x20 ∷ text "b" ∷ blanks 19 ∷ byte 0x8A
    ∷ text "x" ∷ byte 0x8B ∷ byte 0x05 ∷ byte 0xEB ∷ byte 0xE6 ∷ text "]B" ∷ byte 0x04 ∷ zeros 7
    ∷ zeros 144 ∷ []

abbrev pub file176 : Parts
file176 =
    text "TKF" ∷ byte 0x03 ∷ byte 0x00 ∷ byte 0x02 ∷ byte 0x04 ∷ zeros 9
    ∷ byte 0x01 ∷ byte 0x01 ∷ byte 0x00 ∷ byte 0x03 ∷ zeros 28 ∷ text "a" ∷ blanks 2 ∷ zeros 29 ∷ text "a" ∷ blanks 2
    ∷ text "ba" ∷ blanks 19 ∷ byte 0x89 ∷ byte 0x03 ∷ zeros 6 ∷ byte 0x05 ∷ zeros 47
    ∷ byte 0x01 ∷ byte 0x02 ∷ byte 0x03 ∷ zeros 5 ∷ text "a" ∷ byte 0x20 ∷ text "a" ∷ zeros 53 ∷ text "a" ∷ byte 0x20
    ∷ text "b" ∷ blanks 21 ∷ text "*" ∷ byte 0xCC ∷ text ")" ∷ byte 0x93 ∷ text "'" ∷ byte 0xDB ∷ text "D" ∷ byte 0xDD
    ∷ byte 0x97 ∷ text "+" ∷ byte 0x15 ∷ byte 0x84 ∷ text "3" ∷ byte 0xAA ∷ text "'" ∷ byte 0xC3 ∷ text "a" ∷ byte 0x20
    ∷ text "baa" ∷ blanks 19 ∷ byte 0x14 ∷ byte 0x03 ∷ zeros 6 ∷ byte 0xFE ∷ byte 0xFF ∷ byte 0xFF ∷ byte 0xFF
    ∷ byte 0xFF ∷ byte 0xFF ∷ byte 0xFF ∷ byte 0xFF
    ∷ byte 0x01 ∷ byte 0x02 ∷ byte 0x03 ∷ byte 0x04 ∷ zeros 4 ∷ text "a" ∷ blanks 2 ∷ zeros 21 ∷ text "a" ∷ byte 0x20
    ∷ text "a" ∷ byte 0x20 ∷ zeros 28 ∷ text "a" ∷ byte 0x20 ∷ text "a" ∷ blanks 21 ∷ byte 0xFF ∷ byte 0xFF ∷ byte 0xFF
    ∷ byte 0xFF ∷ byte 0xFF ∷ byte 0xFF ∷ byte 0xFF ∷ byte 0xFF ∷ byte 0xFF ∷ byte 0xFF ∷ byte 0xFF ∷ byte 0xFF
    ∷ byte 0xFF ∷ byte 0xFF ∷ byte 0xFF ∷ byte 0xFF ∷ text "a" ∷ byte 0x20 ∷ text "a" ∷ byte 0x20 ∷ text "b" ∷ blanks 19
    ∷ byte 0x8A ∷ text "x" ∷ byte 0x8B ∷ byte 0x05 ∷ byte 0xEB ∷ byte 0xE6 ∷ text "]B" ∷ byte 0x04 ∷ zeros 7
    ∷ byte 0x01 ∷ byte 0x01 ∷ byte 0x04 ∷ byte 0x03 ∷ zeros 4 ∷ text "a" ∷ byte 0x20 ∷ text "a" ∷ byte 0x20 ∷ zeros 20
    ∷ text "a" ∷ byte 0x20 ∷ text "a" ∷ zeros 29 ∷ text "a" ∷ byte 0x20 ∷ text "ab" ∷ blanks 20 ∷ text "!" ∷ byte 0x02
    ∷ zeros 6 ∷ byte 0x02 ∷ zeros 47 ∷ []

abbrev pub file177 : Parts
file177 =
    text "TKF" ∷ byte 0x01 ∷ byte 0x00 ∷ byte 0x02 ∷ byte 0x04 ∷ zeros 9
    ∷ byte 0x01 ∷ byte 0x02 ∷ byte 0x00 ∷ byte 0x10 ∷ zeros 28 ∷ text "niiiiniiiinnoni" ∷ byte 0x20 ∷ zeros 16
    ∷ text "niiiiniiiinni" ∷ blanks 11 ∷ byte 0x99 ∷ text "87" ∷ byte 0xF4 ∷ byte 0x03 ∷ byte 0xE5 ∷ byte 0xAD
    ∷ byte 0xA6 ∷ text "niiiiniiiinnoni" ∷ blanks 9 ∷ byte 0xA3 ∷ byte 0x07 ∷ text "Ad" ∷ byte 0xE4 ∷ byte 0x9A
    ∷ text "aC"
    ∷ byte 0x01 ∷ byte 0x02 ∷ byte 0x14 ∷ zeros 5 ∷ text "niiiiniiiinnoniinoii" ∷ zeros 36
    ∷ text "niiiiniiiinnoniinoion" ∷ blanks 3 ∷ text "N" ∷ byte 0x01 ∷ zeros 6 ∷ text "niiiiniiiinnoninon" ∷ blanks 6
    ∷ text "x" ∷ byte 0x01 ∷ zeros 6
    ∷ byte 0x01 ∷ byte 0x01 ∷ byte 0x10 ∷ byte 0x14 ∷ zeros 4 ∷ text "niiiiniiiinnoni" ∷ byte 0x20 ∷ zeros 8
    ∷ text "niiiiniiiinnoniinoii" ∷ zeros 12 ∷ text "niiiiniiiinnoniinoiino" ∷ blanks 2 ∷ byte 0xE5 ∷ byte 0x03
    ∷ zeros 38
    ∷ zeros 128 ∷ []

abbrev pub file178 : Parts
file178 =
    text "TKF" ∷ byte 0x01 ∷ byte 0x00 ∷ byte 0x02 ∷ byte 0x04 ∷ zeros 9
    ∷ byte 0x01 ∷ byte 0x02 ∷ byte 0x00 ∷ byte 0x10 ∷ zeros 28 ∷ text "niiiiniiiinnoni" ∷ byte 0x20 ∷ zeros 16
    ∷ text "niiiiniiiinni" ∷ blanks 11 ∷ byte 0x99 ∷ text "87" ∷ byte 0xF4 ∷ byte 0x03 ∷ byte 0xE5 ∷ byte 0xAD
    ∷ byte 0xA6 ∷ text "niiiiniiiinnoni" ∷ blanks 9 ∷ byte 0xA3 ∷ byte 0x07 ∷ text "Ad" ∷ byte 0xE4 ∷ byte 0x9A
    ∷ text "aC"
    ∷ byte 0x01 ∷ byte 0x02 ∷ byte 0x14 ∷ byte 0x0E ∷ zeros 4 ∷ text "niiiiniiiinnoniinoii" ∷ zeros 4
    ∷ text "niiiiniiiinnon" ∷ zeros 18 ∷ text "niiiiniiiinnoniinoion" ∷ blanks 3 ∷ text "N" ∷ byte 0x01 ∷ zeros 6
    ∷ text "niiiiniiiinnoninon" ∷ blanks 6 ∷ text "x" ∷ byte 0x01 ∷ zeros 6
    ∷ byte 0x01 ∷ byte 0x01 ∷ byte 0x10 ∷ byte 0x14 ∷ zeros 4 ∷ text "niiiiniiiinnoni" ∷ byte 0x20 ∷ zeros 8
    ∷ text "niiiiniiiinnoniinoii" ∷ zeros 12 ∷ text "niiiiniiiinnoniinoiino" ∷ blanks 2 ∷ byte 0xE5 ∷ byte 0x03
    ∷ zeros 38
    ∷ byte 0x01 ∷ byte 0x01 ∷ byte 0x0E ∷ zeros 5 ∷ text "niiiiniiiinnon" ∷ zeros 42 ∷ text "niiiiniiiinnoon" ∷ blanks 9
    ∷ text ">" ∷ byte 0x02 ∷ zeros 38 ∷ []

abbrev pub file179 : Parts
file179 =
    text "TKF" ∷ byte 0x02 ∷ byte 0x00 ∷ byte 0x02 ∷ byte 0x04 ∷ zeros 9
    ∷ byte 0x01 ∷ byte 0x02 ∷ byte 0x00 ∷ byte 0x02 ∷ zeros 28 ∷ text "!!" ∷ zeros 30 ∷ text "!" ∷ blanks 23 ∷ text "@"
    ∷ byte 0x01 ∷ zeros 6 ∷ text "!!" ∷ blanks 22 ∷ byte 0xCA ∷ byte 0x01 ∷ zeros 6
    ∷ byte 0x01 ∷ byte 0x01 ∷ byte 0x02 ∷ byte 0x01 ∷ zeros 4 ∷ text "!!" ∷ zeros 22 ∷ text "!" ∷ zeros 31 ∷ text "!}a"
    ∷ blanks 21 ∷ text "QkB" ∷ byte 0xD1 ∷ byte 0x20 ∷ text "/" ∷ byte 0x13 ∷ byte 0xB8 ∷ zeros 32
    ∷ byte 0x01 ∷ byte 0x02 ∷ byte 0x01 ∷ zeros 5 ∷ text "!" ∷ zeros 55 ∷ text "a" ∷ blanks 23 ∷ byte 0xFA ∷ text "j"
    ∷ byte 0x5C ∷ byte 0x04 ∷ byte 0x10 ∷ byte 0xCD ∷ byte 0x1E ∷ text "`aa}" ∷ blanks 21 ∷ text ">" ∷ byte 0x03
    ∷ zeros 6
    ∷ zeros 128 ∷ []

abbrev pub file180 : Parts
file180 =
    text "TKF" ∷ byte 0x02 ∷ byte 0x00 ∷ byte 0x02 ∷ byte 0x04 ∷ zeros 9
    ∷ byte 0x01 ∷ byte 0x02 ∷ byte 0x00 ∷ byte 0x02 ∷ zeros 28 ∷ text "!!" ∷ zeros 30 ∷ text "!" ∷ blanks 23 ∷ text "@"
    ∷ byte 0x01 ∷ zeros 6 ∷ text "!!" ∷ blanks 22 ∷ byte 0xCA ∷ byte 0x01 ∷ zeros 6
    ∷ byte 0x01 ∷ byte 0x01 ∷ byte 0x02 ∷ byte 0x01 ∷ zeros 4 ∷ text "!!" ∷ zeros 22 ∷ text "!" ∷ zeros 31 ∷ text "!}a"
    ∷ blanks 21 ∷ text "QkB" ∷ byte 0xD1 ∷ byte 0x20 ∷ text "/" ∷ byte 0x13 ∷ byte 0xB8 ∷ zeros 32
    ∷ byte 0x01 ∷ byte 0x02 ∷ byte 0x01 ∷ byte 0x02 ∷ zeros 4 ∷ text "!" ∷ zeros 23 ∷ text "aa" ∷ zeros 30 ∷ text "a"
    ∷ blanks 23 ∷ byte 0xFA ∷ text "j" ∷ byte 0x5C ∷ byte 0x04 ∷ byte 0x10 ∷ byte 0xCD ∷ byte 0x1E ∷ text "`aa}"
    ∷ blanks 21 ∷ text ">" ∷ byte 0x03 ∷ zeros 6
    ∷ byte 0x01 ∷ byte 0x01 ∷ byte 0x02 ∷ zeros 5 ∷ text "aa" ∷ zeros 54 ∷ text "a}" ∷ blanks 22 ∷ zeros 40 ∷ []

abbrev pub file181 : Parts
file181 =
    text "TKF" ∷ byte 0x02 ∷ byte 0x00 ∷ byte 0x02 ∷ byte 0x04 ∷ zeros 9
    ∷ byte 0x01 ∷ byte 0x01 ∷ byte 0x00 ∷ byte 0x01 ∷ zeros 28 ∷ text "!" ∷ zeros 31 ∷ text "!" ∷ blanks 23 ∷ byte 0x19
    ∷ byte 0x01 ∷ zeros 38
    ∷ byte 0x01 ∷ byte 0x02 ∷ byte 0x01 ∷ byte 0x02 ∷ zeros 4 ∷ text "!" ∷ zeros 23 ∷ text "aa" ∷ zeros 30 ∷ text "a"
    ∷ blanks 23 ∷ text "M" ∷ zeros 7 ∷ text "a!" ∷ blanks 22 ∷ text "j" ∷ zeros 7
    ∷ byte 0x01 ∷ byte 0x02 ∷ byte 0x02 ∷ zeros 5 ∷ text "aa" ∷ zeros 54 ∷ text "a}!" ∷ blanks 21 ∷ byte 0xB3 ∷ zeros 7
    ∷ text "}" ∷ blanks 23 ∷ text "V" ∷ byte 0x02 ∷ zeros 6
    ∷ zeros 128 ∷ []

abbrev pub file182 : Parts
file182 =
    text "TKF" ∷ byte 0x02 ∷ byte 0x00 ∷ byte 0x02 ∷ byte 0x04 ∷ zeros 9
    ∷ byte 0x01 ∷ byte 0x01 ∷ byte 0x00 ∷ byte 0x01 ∷ zeros 28 ∷ text "!" ∷ zeros 31 ∷ text "!" ∷ blanks 23 ∷ byte 0x19
    ∷ byte 0x01 ∷ zeros 38
    ∷ byte 0x01 ∷ byte 0x02 ∷ byte 0x01 ∷ byte 0x02 ∷ zeros 4 ∷ text "!" ∷ zeros 23 ∷ text "aa" ∷ zeros 30 ∷ text "a"
    ∷ blanks 23 ∷ text "M" ∷ zeros 7 ∷ text "a!" ∷ blanks 22 ∷ text "j" ∷ zeros 7
    ∷ byte 0x01 ∷ byte 0x02 ∷ byte 0x02 ∷ byte 0x01 ∷ zeros 4 ∷ text "aa" ∷ zeros 22 ∷ text "a" ∷ zeros 31 ∷ text "a}!"
    ∷ blanks 21 ∷ byte 0xB3 ∷ zeros 7 ∷ text "a}a" ∷ blanks 21 ∷ byte 0xFB ∷ byte 0x01 ∷ zeros 6
    ∷ byte 0x01 ∷ byte 0x01 ∷ byte 0x01 ∷ zeros 5 ∷ text "a" ∷ zeros 55 ∷ text "}" ∷ blanks 23 ∷ text "V" ∷ byte 0x02
    ∷ zeros 38 ∷ []

abbrev pub file183 : Parts
file183 =
    text "TKF" ∷ byte 0x03 ∷ byte 0x00 ∷ byte 0x02 ∷ byte 0x04 ∷ zeros 9
    ∷ byte 0x01 ∷ byte 0x01 ∷ byte 0x00 ∷ byte 0x03 ∷ zeros 28 ∷ text "a!" ∷ byte 0x20 ∷ zeros 29 ∷ text "a!"
    ∷ blanks 22 ∷ byte 0xCA ∷ text "Q" ∷ byte 0x0F ∷ byte 0x07 ∷ text "c" ∷ byte 0xB7 ∷ text "y" ∷ byte 0xE7 ∷ byte 0x01
    ∷ zeros 47
    ∷ byte 0x01 ∷ byte 0x02 ∷ byte 0x02 ∷ zeros 5 ∷ text "a!" ∷ zeros 54 ∷ text "aaa}" ∷ blanks 20 ∷ byte 0x89
    ∷ byte 0x02 ∷ zeros 6 ∷ text "p" ∷ byte 0x9F ∷ byte 0xC8 ∷ byte 0x95 ∷ byte 0x08 ∷ byte 0x18 ∷ byte 0xF6
    ∷ text "*aa}a" ∷ blanks 20 ∷ byte 0xDC ∷ byte 0x03 ∷ zeros 6 ∷ byte 0x05 ∷ zeros 7
    ∷ byte 0x01 ∷ byte 0x02 ∷ byte 0x03 ∷ byte 0x02 ∷ zeros 4 ∷ text "a!" ∷ byte 0x20 ∷ zeros 21 ∷ text "a!" ∷ zeros 30
    ∷ text "a!aa!!" ∷ blanks 18 ∷ byte 0xE8 ∷ zeros 7 ∷ byte 0x03 ∷ zeros 7 ∷ text "a!aa}" ∷ blanks 19 ∷ byte 0x22
    ∷ zeros 7 ∷ byte 0xAC ∷ text "b" ∷ byte 0x8B ∷ text "-M" ∷ byte 0xC0 ∷ byte 0x11 ∷ byte 0xE9
    ∷ zeros 144 ∷ []

abbrev pub file184 : Parts
file184 =
    text "TKF" ∷ byte 0x03 ∷ byte 0x00 ∷ byte 0x02 ∷ byte 0x04 ∷ zeros 9
    ∷ byte 0x01 ∷ byte 0x01 ∷ byte 0x00 ∷ byte 0x03 ∷ zeros 28 ∷ text "a!" ∷ byte 0x20 ∷ zeros 29 ∷ text "a!"
    ∷ blanks 22 ∷ byte 0xCA ∷ text "Q" ∷ byte 0x0F ∷ byte 0x07 ∷ text "c" ∷ byte 0xB7 ∷ text "y" ∷ byte 0xE7 ∷ byte 0x01
    ∷ zeros 47
    ∷ byte 0x01 ∷ byte 0x02 ∷ byte 0x02 ∷ zeros 5 ∷ text "a!" ∷ zeros 54 ∷ text "aaa}" ∷ blanks 20 ∷ byte 0x89
    ∷ byte 0x02 ∷ zeros 6 ∷ text "p" ∷ byte 0x9F ∷ byte 0xC8 ∷ byte 0x95 ∷ byte 0x08 ∷ byte 0x18 ∷ byte 0xF6
    ∷ text "*aa}a" ∷ blanks 20 ∷ byte 0xDC ∷ byte 0x03 ∷ zeros 6 ∷ byte 0x05 ∷ zeros 7
    ∷ byte 0x01 ∷ byte 0x01 ∷ byte 0x03 ∷ byte 0x04 ∷ zeros 4 ∷ text "a!" ∷ byte 0x20 ∷ zeros 21 ∷ text "a!a"
    ∷ byte 0x20 ∷ zeros 28 ∷ text "a!a" ∷ blanks 21 ∷ text "l" ∷ byte 0x03 ∷ zeros 6 ∷ byte 0x01 ∷ zeros 47
    ∷ byte 0x01 ∷ byte 0x02 ∷ byte 0x04 ∷ byte 0x02 ∷ zeros 4 ∷ text "a!a" ∷ byte 0x20 ∷ zeros 20 ∷ text "a!" ∷ zeros 30
    ∷ text "a!aa!!" ∷ blanks 18 ∷ byte 0xE8 ∷ zeros 7 ∷ byte 0x03 ∷ zeros 7 ∷ text "a!aa}" ∷ blanks 19 ∷ byte 0x22
    ∷ zeros 7 ∷ byte 0xAC ∷ text "b" ∷ byte 0x8B ∷ text "-M" ∷ byte 0xC0 ∷ byte 0x11 ∷ byte 0xE9 ∷ []

abbrev pub file185 : Parts
file185 =
    text "TKF" ∷ byte 0x02 ∷ byte 0x00 ∷ byte 0x02 ∷ byte 0x03 ∷ zeros 9
    ∷ byte 0x01 ∷ byte 0x02 ∷ byte 0x00 ∷ byte 0x02 ∷ zeros 28 ∷ text "aa" ∷ zeros 30 ∷ text "a" ∷ blanks 23 ∷ byte 0xAB
    ∷ byte 0xD0 ∷ byte 0xF1 ∷ byte 0x80 ∷ byte 0x8E ∷ byte 0x1A ∷ byte 0xAB ∷ byte 0x1D ∷ text "aaa" ∷ blanks 21
    ∷ byte 0xF2 ∷ byte 0xC9 ∷ text "Q" ∷ byte 0xDE ∷ byte 0x14 ∷ text "R" ∷ byte 0xF8 ∷ byte 0xA7
    ∷ byte 0x01 ∷ byte 0x02 ∷ byte 0x02 ∷ zeros 5 ∷ text "aa" ∷ zeros 54 ∷ text "ababa" ∷ blanks 19 ∷ byte 0xF3
    ∷ byte 0x01 ∷ zeros 6 ∷ text "abbbba" ∷ blanks 18 ∷ text "9" ∷ byte 0x03 ∷ zeros 6
    ∷ zeros 128 ∷ []

abbrev pub file186 : Parts
file186 =
    text "TKF" ∷ byte 0x02 ∷ byte 0x00 ∷ byte 0x02 ∷ byte 0x03 ∷ zeros 9
    ∷ byte 0x01 ∷ byte 0x02 ∷ byte 0x00 ∷ byte 0x02 ∷ zeros 28 ∷ text "aa" ∷ zeros 30 ∷ text "a" ∷ blanks 23 ∷ byte 0xAB
    ∷ byte 0xD0 ∷ byte 0xF1 ∷ byte 0x80 ∷ byte 0x8E ∷ byte 0x1A ∷ byte 0xAB ∷ byte 0x1D ∷ text "aaa" ∷ blanks 21
    ∷ byte 0xF2 ∷ byte 0xC9 ∷ text "Q" ∷ byte 0xDE ∷ byte 0x14 ∷ text "R" ∷ byte 0xF8 ∷ byte 0xA7
    ∷ byte 0x01 ∷ byte 0x02 ∷ byte 0x02 ∷ byte 0x03 ∷ zeros 4 ∷ text "aa" ∷ zeros 22 ∷ text "aba" ∷ zeros 29 ∷ text "ab"
    ∷ blanks 22 ∷ byte 0x1D ∷ zeros 7 ∷ text "ababa" ∷ blanks 19 ∷ byte 0xF3 ∷ byte 0x01 ∷ zeros 6
    ∷ byte 0x01 ∷ byte 0x01 ∷ byte 0x03 ∷ zeros 5 ∷ text "aba" ∷ zeros 53 ∷ text "abbbba" ∷ blanks 18 ∷ text "9"
    ∷ byte 0x03 ∷ zeros 38 ∷ []

abbrev pub file187 : Parts
file187 =
    text "TKF" ∷ byte 0x03 ∷ byte 0x00 ∷ byte 0x02 ∷ byte 0x03 ∷ zeros 9
    ∷ byte 0x01 ∷ byte 0x01 ∷ byte 0x00 ∷ byte 0x05 ∷ zeros 28 ∷ text "i" ∷ blanks 2 ∷ text "ii" ∷ zeros 27 ∷ text "i"
    ∷ blanks 2 ∷ text "ii" ∷ blanks 19 ∷ byte 0xBE ∷ byte 0x01 ∷ zeros 6 ∷ byte 0x03 ∷ zeros 47
    ∷ byte 0x01 ∷ byte 0x02 ∷ byte 0x05 ∷ zeros 5 ∷ text "i" ∷ blanks 2 ∷ text "ii" ∷ zeros 51 ∷ text "i" ∷ blanks 2
    ∷ text "in" ∷ blanks 19 ∷ zeros 16 ∷ text "i" ∷ blanks 2 ∷ text "inn" ∷ blanks 18 ∷ byte 0x97 ∷ byte 0x02 ∷ zeros 6
    ∷ byte 0xFF ∷ byte 0xFF ∷ byte 0xFF ∷ byte 0xFF ∷ byte 0xFF ∷ byte 0xFF ∷ byte 0xFF ∷ byte 0xFF
    ∷ zeros 144 ∷ []

abbrev pub file188 : Parts
file188 =
    text "TKF" ∷ byte 0x03 ∷ byte 0x00 ∷ byte 0x02 ∷ byte 0x03 ∷ zeros 9
    ∷ byte 0x01 ∷ byte 0x01 ∷ byte 0x00 ∷ byte 0x05 ∷ zeros 28 ∷ text "i" ∷ blanks 2 ∷ text "ii" ∷ zeros 27 ∷ text "i"
    ∷ blanks 2 ∷ text "ii" ∷ blanks 19 ∷ byte 0xBE ∷ byte 0x01 ∷ zeros 6 ∷ byte 0x03 ∷ zeros 47
    ∷ byte 0x01 ∷ byte 0x02 ∷ byte 0x05 ∷ byte 0x04 ∷ zeros 4 ∷ text "i" ∷ blanks 2 ∷ text "ii" ∷ zeros 19 ∷ text "i"
    ∷ blanks 2 ∷ text "i" ∷ zeros 28 ∷ text "i" ∷ blanks 2 ∷ text "in" ∷ blanks 19 ∷ zeros 16 ∷ text "i" ∷ blanks 2
    ∷ text "inn" ∷ blanks 18 ∷ byte 0x97 ∷ byte 0x02 ∷ zeros 6 ∷ byte 0xFF ∷ byte 0xFF ∷ byte 0xFF ∷ byte 0xFF
    ∷ byte 0xFF ∷ byte 0xFF ∷ byte 0xFF ∷ byte 0xFF
    ∷ byte 0x01 ∷ byte 0x01 ∷ byte 0x04 ∷ zeros 5 ∷ text "i" ∷ blanks 2 ∷ text "i" ∷ zeros 52 ∷ text "i" ∷ blanks 2
    ∷ text "ni" ∷ blanks 19 ∷ text "d" ∷ byte 0xCE ∷ byte 0xFA ∷ byte 0xF6 ∷ byte 0xAC ∷ text "[Q" ∷ byte 0x1E
    ∷ zeros 48 ∷ []

abbrev pub file189 : Parts
file189 =
    text "TKF" ∷ byte 0x01 ∷ byte 0x00 ∷ byte 0x02 ∷ byte 0x03 ∷ zeros 9
    ∷ byte 0x01 ∷ byte 0x02 ∷ byte 0x00 ∷ byte 0x04 ∷ zeros 28 ∷ text "}!!" ∷ byte 0x20 ∷ zeros 28 ∷ text "!!}"
    ∷ blanks 21 ∷ text "w" ∷ byte 0x02 ∷ zeros 6 ∷ text "}!!" ∷ blanks 21 ∷ text "O" ∷ zeros 7
    ∷ byte 0x01 ∷ byte 0x00 ∷ byte 0x03 ∷ zeros 5 ∷ text "}!!" ∷ zeros 117
    ∷ byte 0x01 ∷ byte 0x01 ∷ byte 0x04 ∷ byte 0x03 ∷ zeros 4 ∷ text "}!!" ∷ byte 0x20 ∷ zeros 20 ∷ text "}!!"
    ∷ zeros 29 ∷ text "}!!}" ∷ blanks 20 ∷ byte 0x02 ∷ byte 0x01 ∷ zeros 38 ∷ []

abbrev pub file190 : Parts
file190 =
    text "TKF" ∷ byte 0x02 ∷ byte 0x00 ∷ byte 0x02 ∷ byte 0x04 ∷ zeros 9
    ∷ byte 0x01 ∷ byte 0x01 ∷ byte 0x00 ∷ byte 0x05 ∷ zeros 28 ∷ text "!}!}" ∷ byte 0x20 ∷ zeros 27 ∷ text "!}!}"
    ∷ blanks 20 ∷ byte 0xD8 ∷ byte 0x01 ∷ zeros 38
    ∷ byte 0x01 ∷ byte 0x02 ∷ byte 0x05 ∷ zeros 5 ∷ text "!}!}" ∷ byte 0x20 ∷ zeros 51 ∷ text "!}!}!!" ∷ blanks 18
    ∷ byte 0x0E ∷ byte 0x01 ∷ zeros 6 ∷ text "!}!}!}" ∷ blanks 18 ∷ text "o" ∷ byte 0xAC ∷ byte 0x05 ∷ text "L"
    ∷ byte 0xF8 ∷ byte 0x0C ∷ byte 0x06 ∷ text "0"
    ∷ zeros 128
    ∷ zeros 128 ∷ []

abbrev pub file191 : Parts
file191 =
    text "TKF" ∷ byte 0x02 ∷ byte 0x00 ∷ byte 0x02 ∷ byte 0x04 ∷ zeros 9
    ∷ byte 0x01 ∷ zeros 2 ∷ byte 0x05 ∷ zeros 28 ∷ text "!}!}" ∷ byte 0x20 ∷ zeros 91
    ∷ byte 0x01 ∷ byte 0x02 ∷ byte 0x05 ∷ zeros 5 ∷ text "!}!}" ∷ byte 0x20 ∷ zeros 51 ∷ text "!}!}!!" ∷ blanks 18
    ∷ byte 0x0E ∷ byte 0x01 ∷ zeros 6 ∷ text "!}!}!}" ∷ blanks 18 ∷ text "o" ∷ byte 0xAC ∷ byte 0x05 ∷ text "L"
    ∷ byte 0xF8 ∷ byte 0x0C ∷ byte 0x06 ∷ text "0"
    ∷ zeros 128
    ∷ zeros 128 ∷ []

abbrev pub file192 : Parts
file192 =
    text "TKF" ∷ byte 0x03 ∷ byte 0x00 ∷ byte 0x03 ∷ byte 0x03 ∷ zeros 9
    ∷ byte 0x01 ∷ byte 0x03 ∷ byte 0x00 ∷ byte 0x0E ∷ zeros 28 ∷ text "baabaabbbaaaba" ∷ zeros 18
    ∷ text "baabaabbbaaabaaaaa" ∷ blanks 6 ∷ text "." ∷ byte 0x01 ∷ zeros 6 ∷ byte 0xFE ∷ byte 0xFF ∷ byte 0xFF
    ∷ byte 0xFF ∷ byte 0xFF ∷ byte 0xFF ∷ byte 0xFF ∷ byte 0xFF ∷ text "baabaabbbaaabaaaabab" ∷ blanks 4 ∷ byte 0xF0
    ∷ byte 0x01 ∷ zeros 6 ∷ byte 0x05 ∷ zeros 7 ∷ text "baabaabbbaaabab" ∷ blanks 9 ∷ text "s" ∷ byte 0x01 ∷ zeros 6
    ∷ byte 0x02 ∷ zeros 7
    ∷ byte 0x01 ∷ byte 0x01 ∷ byte 0x0E ∷ zeros 5 ∷ text "baabaabbbaaaba" ∷ zeros 42 ∷ text "baabaabbbaaabbaa"
    ∷ blanks 8 ∷ byte 0xA8 ∷ byte 0x03 ∷ zeros 6 ∷ byte 0x05 ∷ zeros 87
    ∷ zeros 184 ∷ []

abbrev pub file193 : Parts
file193 =
    text "TKF" ∷ byte 0x03 ∷ byte 0x00 ∷ byte 0x03 ∷ byte 0x04 ∷ zeros 9
    ∷ byte 0x01 ∷ byte 0x02 ∷ byte 0x00 ∷ byte 0x11 ∷ zeros 28 ∷ text "abbaabaabbbababb" ∷ byte 0x20 ∷ zeros 15
    ∷ text "abbaabaabbb" ∷ blanks 13 ∷ byte 0xDF ∷ byte 0xC3 ∷ byte 0x82 ∷ text "G6" ∷ byte 0xFD ∷ text "g" ∷ byte 0xE1
    ∷ byte 0x01 ∷ zeros 7 ∷ text "abbaabaabbbababb" ∷ blanks 8 ∷ byte 0x7F ∷ byte 0x8B ∷ text "c" ∷ byte 0xEA
    ∷ byte 0xBF ∷ text "t" ∷ byte 0xA3 ∷ byte 0x09 ∷ byte 0xFF ∷ byte 0xFF ∷ byte 0xFF ∷ byte 0xFF ∷ byte 0xFF
    ∷ byte 0xFF ∷ byte 0xFF ∷ byte 0xFF ∷ zeros 40
    ∷ byte 0x01 ∷ byte 0x03 ∷ byte 0x11 ∷ byte 0x13 ∷ zeros 4 ∷ text "abbaabaabbbababb" ∷ byte 0x20 ∷ zeros 7
    ∷ text "abbaabaabbbababbbba" ∷ zeros 13 ∷ text "abbaabaabbbababbbb" ∷ blanks 6 ∷ byte 0xAF ∷ byte 0x01 ∷ zeros 6
    ∷ byte 0xFF ∷ byte 0xFF ∷ byte 0xFF ∷ byte 0xFF ∷ byte 0xFF ∷ byte 0xFF ∷ byte 0xFF ∷ byte 0xFF
    ∷ text "abbaabaabbbababbbba" ∷ blanks 5 ∷ byte 0xD1 ∷ byte 0x03 ∷ zeros 6 ∷ byte 0xFF ∷ byte 0xFF ∷ byte 0xFF
    ∷ byte 0xFF ∷ byte 0xFF ∷ byte 0xFF ∷ byte 0xFF ∷ byte 0xFF ∷ text "abbaabaabbbababbbbaa" ∷ blanks 4 ∷ byte 0x00
    ∷ byte 0x03 ∷ zeros 14
    ∷ byte 0x01 ∷ byte 0x02 ∷ byte 0x13 ∷ zeros 5 ∷ text "abbaabaabbbababbbba" ∷ zeros 37 ∷ text "abbaabaabbbababbbbbb"
    ∷ blanks 4 ∷ byte 0xF7 ∷ zeros 7 ∷ byte 0x01 ∷ zeros 7 ∷ text "abbaabaabbbababbbbbba" ∷ blanks 3 ∷ text "c"
    ∷ byte 0x02 ∷ zeros 6 ∷ byte 0x04 ∷ zeros 47
    ∷ zeros 184 ∷ []

abbrev pub file194 : Parts
file194 =
    text "TKF" ∷ byte 0x01 ∷ byte 0x00 ∷ byte 0x03 ∷ byte 0x03 ∷ zeros 9
    ∷ byte 0x01 ∷ byte 0x02 ∷ byte 0x00 ∷ byte 0x03 ∷ zeros 28 ∷ text "}!" ∷ byte 0x20 ∷ zeros 29 ∷ text "!" ∷ blanks 23
    ∷ text "nF^" ∷ byte 0xC6 ∷ text "S" ∷ byte 0x09 ∷ byte 0x07 ∷ text "H}!" ∷ blanks 22 ∷ byte 0xB2 ∷ byte 0x01
    ∷ zeros 38
    ∷ byte 0x01 ∷ byte 0x03 ∷ byte 0x03 ∷ zeros 5 ∷ text "}!" ∷ byte 0x20 ∷ zeros 53 ∷ text "}!!" ∷ blanks 21
    ∷ byte 0xFB ∷ byte 0xF7 ∷ byte 0xA5 ∷ byte 0xA8 ∷ byte 0x17 ∷ byte 0x1F ∷ text "X" ∷ byte 0x9E ∷ text "}!}"
    ∷ blanks 21 ∷ text "Y" ∷ byte 0x02 ∷ zeros 6 ∷ text "}}!" ∷ blanks 21 ∷ text "$" ∷ byte 0xEB ∷ byte 0xCA ∷ byte 0xAA
    ∷ text "_9" ∷ byte 0x91 ∷ byte 0xD7
    ∷ byte 0x01 ∷ byte 0x02 ∷ byte 0x02 ∷ zeros 5 ∷ text "}!" ∷ zeros 54 ∷ text "}}" ∷ blanks 22 ∷ text "y" ∷ byte 0x01
    ∷ zeros 6 ∷ text "}}!" ∷ blanks 21 ∷ text "$" ∷ byte 0xEB ∷ byte 0xCA ∷ byte 0xAA ∷ text "_9" ∷ byte 0x91
    ∷ byte 0xD7 ∷ zeros 32 ∷ []

abbrev pub file195 : Parts
file195 =
    text "TKF" ∷ byte 0x01 ∷ byte 0x00 ∷ byte 0x02 ∷ byte 0x03 ∷ zeros 9
    ∷ byte 0x01 ∷ byte 0x02 ∷ byte 0x00 ∷ byte 0x15 ∷ zeros 28 ∷ text "yxxyyzzxxxxxzxyxyzyxx" ∷ zeros 11
    ∷ text "yxxyyzzxxxxxzxyxyzyxxz" ∷ blanks 2 ∷ byte 0x8F ∷ zeros 7 ∷ text "yxxyyzzxxxxxzxyxyzyxxzz" ∷ byte 0x20
    ∷ byte 0xB8 ∷ zeros 7
    ∷ byte 0x01 ∷ byte 0x01 ∷ byte 0x15 ∷ byte 0x15 ∷ zeros 4 ∷ text "yxxyyzzxxxxxzxyxyzyxx" ∷ zeros 3
    ∷ text "yxxyyzzxxxxxzxyxyzyxy" ∷ zeros 11 ∷ text "yxxyyzzxxxxxzxyxyzyxyyz" ∷ byte 0x20 ∷ text "4" ∷ zeros 39
    ∷ byte 0x01 ∷ byte 0x01 ∷ byte 0x15 ∷ zeros 5 ∷ text "yxxyyzzxxxxxzxyxyzyxy" ∷ zeros 35
    ∷ text "yxxyyzzxxxxxzxyxyzyxzyz" ∷ byte 0x20 ∷ text "'" ∷ byte 0x80 ∷ text "K" ∷ byte 0x20 ∷ byte 0x03 ∷ byte 0xB2
    ∷ byte 0x05 ∷ byte 0xF7 ∷ zeros 32 ∷ []

abbrev pub file196 : Parts
file196 =
    text "TKF" ∷ byte 0x01 ∷ byte 0x00 ∷ byte 0x02 ∷ byte 0x03 ∷ zeros 9
    ∷ byte 0x01 ∷ byte 0x01 ∷ byte 0x00 ∷ byte 0x15 ∷ zeros 28 ∷ text "yxxyyzzxxxxxzxyxyzyxx" ∷ zeros 11
    ∷ text "yxxyyzzxxxxxzxyxyzyxxz" ∷ blanks 2 ∷ byte 0x8F ∷ zeros 39
    ∷ byte 0x01 ∷ byte 0x01 ∷ byte 0x15 ∷ byte 0x15 ∷ zeros 4 ∷ text "yxxyyzzxxxxxzxyxyzyxx" ∷ zeros 3
    ∷ text "yxxyyzzxxxxxzxyxyzyxy" ∷ zeros 11 ∷ text "yxxyyzzxxxxxzxyxyzyxyyz" ∷ byte 0x20 ∷ text "4" ∷ zeros 39
    ∷ byte 0x01 ∷ byte 0x01 ∷ byte 0x15 ∷ zeros 5 ∷ text "yxxyyzzxxxxxzxyxyzyxy" ∷ zeros 35
    ∷ text "yxxyyzzxxxxxzxyxyzyxzyz" ∷ byte 0x20 ∷ text "'" ∷ byte 0x80 ∷ text "K" ∷ byte 0x20 ∷ byte 0x03 ∷ byte 0xB2
    ∷ byte 0x05 ∷ byte 0xF7 ∷ zeros 32 ∷ []

abbrev pub file197 : Parts
file197 =
    text "TKF" ∷ byte 0x01 ∷ byte 0x00 ∷ byte 0x02 ∷ byte 0x02 ∷ zeros 9
    ∷ byte 0x01 ∷ byte 0x01 ∷ byte 0x00 ∷ byte 0x03 ∷ zeros 28 ∷ text "iii" ∷ zeros 29 ∷ text "iiiin" ∷ blanks 19
    ∷ byte 0xF6 ∷ byte 0x22 ∷ text "u" ∷ byte 0x05 ∷ byte 0x1E ∷ text "rc" ∷ byte 0x93 ∷ zeros 32
    ∷ byte 0x01 ∷ byte 0x01 ∷ byte 0x03 ∷ zeros 5 ∷ text "iii" ∷ zeros 53 ∷ text "iino" ∷ blanks 20 ∷ zeros 40 ∷ []

abbrev pub file198 : Parts
file198 =
    text "TKF" ∷ byte 0x03 ∷ byte 0x00 ∷ byte 0x02 ∷ byte 0x03 ∷ zeros 9
    ∷ byte 0x01 ∷ byte 0x01 ∷ byte 0x00 ∷ byte 0x17 ∷ zeros 28 ∷ text "zxzyxxzzzyzyyxyyxxyxxy" ∷ byte 0x20 ∷ zeros 9
    ∷ text "zxzyxxzzzyzyyxyyxxyxxy" ∷ blanks 2 ∷ text "Z" ∷ byte 0x02 ∷ zeros 6 ∷ byte 0x03 ∷ zeros 47
    ∷ byte 0x01 ∷ byte 0x01 ∷ byte 0x18 ∷ zeros 5 ∷ text "zxzyxxzzzyzyyxyyxxyxxyzx" ∷ zeros 32
    ∷ text "zxzyxxzzzyzyyxyyxxyxxyzz" ∷ byte 0xBF ∷ byte 0x11 ∷ text "Bm" ∷ byte 0xCD ∷ byte 0xD8 ∷ text "m0"
    ∷ byte 0x03 ∷ zeros 47
    ∷ byte 0x01 ∷ byte 0x02 ∷ byte 0x17 ∷ byte 0x18 ∷ zeros 4 ∷ text "zxzyxxzzzyzyyxyyxxyxxy" ∷ byte 0x20 ∷ byte 0x00
    ∷ text "zxzyxxzzzyzyyxyyxxyxxyzx" ∷ zeros 8 ∷ text "zxzyxxzzzyzyyxyyxxyxxyz" ∷ byte 0x20 ∷ byte 0x83 ∷ byte 0x01
    ∷ zeros 6 ∷ byte 0xFF ∷ byte 0xFF ∷ byte 0xFF ∷ byte 0xFF ∷ byte 0xFF ∷ byte 0xFF ∷ byte 0xFF ∷ byte 0xFF
    ∷ text "zxzyxxzzzyzyyxyyxxyxxyzx" ∷ byte 0x81 ∷ byte 0x01 ∷ zeros 6 ∷ byte 0x03 ∷ zeros 7 ∷ []

abbrev pub file199 : Parts
file199 =
    text "TKF" ∷ byte 0x01 ∷ byte 0x00 ∷ byte 0x02 ∷ byte 0x04 ∷ zeros 9
    ∷ byte 0x01 ∷ byte 0x02 ∷ byte 0x00 ∷ byte 0x05 ∷ zeros 28 ∷ text "abbba" ∷ zeros 27 ∷ text "abbba" ∷ blanks 19
    ∷ byte 0xBC ∷ byte 0x03 ∷ zeros 6 ∷ text "abbbaa" ∷ blanks 18 ∷ text "&" ∷ byte 0xE6 ∷ byte 0xD0 ∷ byte 0xA5
    ∷ byte 0x1C ∷ byte 0xE2 ∷ text "." ∷ byte 0xFD
    ∷ byte 0x01 ∷ byte 0x02 ∷ byte 0x05 ∷ zeros 5 ∷ text "abbba" ∷ zeros 51 ∷ text "abbbb" ∷ blanks 19 ∷ text ">"
    ∷ zeros 7 ∷ text "abbbbb" ∷ blanks 18 ∷ byte 0xEC ∷ text "R(" ∷ byte 0xF9 ∷ text "l" ∷ byte 0x1F ∷ text "#"
    ∷ byte 0xBF
    ∷ zeros 128
    ∷ zeros 128 ∷ []

abbrev pub file200 : Parts
file200 =
    text "TKF" ∷ byte 0x01 ∷ byte 0x00 ∷ byte 0x02 ∷ byte 0x04 ∷ zeros 9
    ∷ byte 0x01 ∷ byte 0x02 ∷ byte 0x00 ∷ byte 0x05 ∷ zeros 28 ∷ text "abbba" ∷ zeros 27 ∷ text "abbba" ∷ blanks 19
    ∷ byte 0xBC ∷ byte 0x03 ∷ zeros 6 ∷ text "abbbaa" ∷ blanks 18 ∷ text "&" ∷ byte 0xE6 ∷ byte 0xD0 ∷ byte 0xA5
    ∷ byte 0x1C ∷ byte 0xE2 ∷ text "." ∷ byte 0xFD
    ∷ byte 0x01 ∷ byte 0x01 ∷ byte 0x05 ∷ zeros 5 ∷ text "abbba" ∷ zeros 51 ∷ text "abbbbb" ∷ blanks 18 ∷ byte 0xEC
    ∷ text "R(" ∷ byte 0xF9 ∷ text "l" ∷ byte 0x1F ∷ text "#" ∷ byte 0xBF ∷ zeros 32
    ∷ zeros 128
    ∷ zeros 128 ∷ []

abbrev pub file201 : Parts
file201 =
    text "TKF" ∷ byte 0x01 ∷ byte 0x00 ∷ byte 0x02 ∷ byte 0x02 ∷ zeros 9
    ∷ byte 0x01 ∷ byte 0x02 ∷ byte 0x00 ∷ byte 0x03 ∷ zeros 28 ∷ text "ba" ∷ byte 0x20 ∷ zeros 29 ∷ text "b" ∷ blanks 2
    ∷ text "b" ∷ blanks 20 ∷ byte 0xD2 ∷ text "E" ∷ byte 0xC0 ∷ byte 0xFE ∷ byte 0xFA ∷ byte 0xCC ∷ text "B" ∷ byte 0x83
    ∷ text "ba" ∷ blanks 22 ∷ byte 0xE3 ∷ byte 0x01 ∷ zeros 6
    ∷ byte 0x01 ∷ byte 0x01 ∷ byte 0x03 ∷ zeros 5 ∷ text "ba" ∷ byte 0x20 ∷ zeros 53 ∷ text "babb" ∷ blanks 20
    ∷ byte 0x22 ∷ zeros 39 ∷ []

abbrev pub file202 : Parts
file202 =
    text "TKF" ∷ byte 0x01 ∷ byte 0x00 ∷ byte 0x03 ∷ byte 0x03 ∷ zeros 9
    ∷ byte 0x01 ∷ byte 0x03 ∷ byte 0x00 ∷ byte 0x03 ∷ zeros 28 ∷ text "i" ∷ byte 0x20 ∷ text "i" ∷ zeros 29 ∷ text "i"
    ∷ byte 0x20 ∷ text "i" ∷ blanks 21 ∷ text "]" ∷ byte 0x01 ∷ zeros 6 ∷ text "i" ∷ byte 0x20 ∷ text "in" ∷ blanks 20
    ∷ byte 0x8B ∷ byte 0x01 ∷ zeros 6 ∷ text "i" ∷ byte 0x20 ∷ text "inn" ∷ blanks 19 ∷ byte 0xBC ∷ byte 0x03 ∷ zeros 6
    ∷ byte 0x01 ∷ byte 0x02 ∷ byte 0x03 ∷ zeros 5 ∷ text "i" ∷ byte 0x20 ∷ text "i" ∷ zeros 53 ∷ text "i" ∷ byte 0x20
    ∷ text "n" ∷ blanks 21 ∷ text "D" ∷ byte 0x02 ∷ zeros 6 ∷ text "i" ∷ byte 0x20 ∷ text "nn" ∷ blanks 20 ∷ text "y"
    ∷ byte 0x03 ∷ zeros 38
    ∷ zeros 160 ∷ []

abbrev pub file203 : Parts
file203 =
    text "TKF" ∷ byte 0x01 ∷ byte 0x00 ∷ byte 0x03 ∷ byte 0x02 ∷ zeros 9
    ∷ byte 0x01 ∷ byte 0x02 ∷ byte 0x00 ∷ byte 0x01 ∷ zeros 28 ∷ text "b" ∷ zeros 31 ∷ text "a!!" ∷ blanks 21
    ∷ byte 0xE7 ∷ byte 0x01 ∷ zeros 6 ∷ text "aaa" ∷ blanks 21 ∷ byte 0xB6 ∷ byte 0x95 ∷ byte 0xA7 ∷ text "!"
    ∷ byte 0xB0 ∷ text "9O" ∷ byte 0xD6 ∷ zeros 32
    ∷ byte 0x01 ∷ byte 0x02 ∷ byte 0x01 ∷ zeros 5 ∷ text "b" ∷ zeros 55 ∷ text "a}" ∷ blanks 22 ∷ text "v" ∷ zeros 7
    ∷ text "a}!}!}" ∷ blanks 18 ∷ byte 0x9B ∷ byte 0x01 ∷ zeros 38 ∷ []

abbrev pub file204 : Parts
file204 =
    text "TKF" ∷ byte 0x03 ∷ byte 0x00 ∷ byte 0x02 ∷ byte 0x04 ∷ zeros 9
    ∷ byte 0x01 ∷ byte 0x01 ∷ byte 0x00 ∷ byte 0x01 ∷ zeros 28 ∷ text "r" ∷ zeros 31 ∷ text "rtt" ∷ blanks 21
    ∷ text "T5" ∷ byte 0x9C ∷ text "@&" ∷ byte 0x1D ∷ byte 0x8E ∷ byte 0x06 ∷ byte 0x03 ∷ zeros 47
    ∷ byte 0x01 ∷ byte 0x01 ∷ byte 0x01 ∷ zeros 5 ∷ text "s" ∷ zeros 55 ∷ text "trt" ∷ blanks 21 ∷ byte 0x15 ∷ zeros 7
    ∷ byte 0xFF ∷ byte 0xFF ∷ byte 0xFF ∷ byte 0xFF ∷ byte 0xFF ∷ byte 0xFF ∷ byte 0xFF ∷ byte 0xFF ∷ zeros 40
    ∷ byte 0x01 ∷ byte 0x02 ∷ byte 0x01 ∷ byte 0x02 ∷ zeros 4 ∷ text "r" ∷ zeros 23 ∷ text "sr" ∷ zeros 30 ∷ text "s"
    ∷ blanks 23 ∷ text "x" ∷ zeros 7 ∷ byte 0x02 ∷ zeros 7 ∷ text "sr" ∷ blanks 22 ∷ text "e" ∷ byte 0x03 ∷ zeros 6
    ∷ byte 0x04 ∷ zeros 7
    ∷ byte 0x01 ∷ byte 0x01 ∷ byte 0x02 ∷ byte 0x01 ∷ zeros 4 ∷ text "sr" ∷ zeros 22 ∷ text "s" ∷ zeros 31 ∷ text "st"
    ∷ blanks 22 ∷ byte 0xDB ∷ byte 0x03 ∷ zeros 54 ∷ []

abbrev pub file205 : Parts
file205 =
    text "TKF" ∷ byte 0x03 ∷ byte 0x00 ∷ byte 0x02 ∷ byte 0x04 ∷ zeros 9
    ∷ byte 0x01 ∷ byte 0x01 ∷ byte 0x00 ∷ byte 0x01 ∷ zeros 28 ∷ text "r" ∷ zeros 31 ∷ text "rtt" ∷ blanks 21
    ∷ text "T5" ∷ byte 0x9C ∷ text "@&" ∷ byte 0x1D ∷ byte 0x8E ∷ byte 0x06 ∷ byte 0x03 ∷ zeros 47
    ∷ zeros 144
    ∷ byte 0x01 ∷ byte 0x02 ∷ byte 0x01 ∷ byte 0x02 ∷ zeros 4 ∷ text "r" ∷ zeros 23 ∷ text "sr" ∷ zeros 30 ∷ text "s"
    ∷ blanks 23 ∷ text "x" ∷ zeros 7 ∷ byte 0x02 ∷ zeros 7 ∷ text "sr" ∷ blanks 22 ∷ text "e" ∷ byte 0x03 ∷ zeros 6
    ∷ byte 0x04 ∷ zeros 7
    ∷ byte 0x01 ∷ byte 0x01 ∷ byte 0x02 ∷ zeros 5 ∷ text "sr" ∷ zeros 54 ∷ text "st" ∷ blanks 22 ∷ byte 0xDB ∷ byte 0x03
    ∷ zeros 54 ∷ []

abbrev pub file206 : Parts
file206 =
    text "TKF" ∷ byte 0x01 ∷ byte 0x00 ∷ byte 0x03 ∷ byte 0x03 ∷ zeros 9
    ∷ byte 0x01 ∷ byte 0x03 ∷ byte 0x00 ∷ byte 0x05 ∷ zeros 28 ∷ text "baaba" ∷ zeros 27 ∷ text "baaaa" ∷ blanks 19
    ∷ byte 0xA6 ∷ byte 0x02 ∷ zeros 6 ∷ text "baabaa" ∷ blanks 18 ∷ text "&" ∷ byte 0x02 ∷ zeros 6 ∷ text "baabab"
    ∷ blanks 18 ∷ text "@" ∷ byte 0x01 ∷ zeros 6
    ∷ byte 0x01 ∷ byte 0x01 ∷ byte 0x05 ∷ byte 0x03 ∷ zeros 4 ∷ text "baaba" ∷ zeros 19 ∷ text "baa" ∷ zeros 29
    ∷ text "baabb" ∷ blanks 19 ∷ byte 0xB5 ∷ zeros 71
    ∷ byte 0x01 ∷ byte 0x01 ∷ byte 0x03 ∷ zeros 5 ∷ text "baa" ∷ zeros 53 ∷ text "bb" ∷ blanks 22 ∷ byte 0x01
    ∷ byte 0x01 ∷ zeros 70 ∷ []

abbrev pub file207 : Parts
file207 =
    text "TKF" ∷ byte 0x01 ∷ byte 0x00 ∷ byte 0x03 ∷ byte 0x03 ∷ zeros 9
    ∷ byte 0x01 ∷ byte 0x03 ∷ byte 0x00 ∷ byte 0x05 ∷ zeros 28 ∷ text "baaba" ∷ zeros 27 ∷ text "baaaa" ∷ blanks 19
    ∷ byte 0xA6 ∷ byte 0x02 ∷ zeros 6 ∷ text "baabaa" ∷ blanks 18 ∷ text "&" ∷ byte 0x02 ∷ zeros 6 ∷ text "baabab"
    ∷ blanks 18 ∷ text "@" ∷ byte 0x01 ∷ zeros 6
    ∷ byte 0x01 ∷ byte 0x01 ∷ byte 0x05 ∷ zeros 5 ∷ text "baaba" ∷ zeros 51 ∷ text "bb" ∷ blanks 22 ∷ byte 0x01
    ∷ byte 0x01 ∷ zeros 70
    ∷ zeros 160 ∷ []

abbrev pub file208 : Parts
file208 =
    text "TKF" ∷ byte 0x02 ∷ byte 0x00 ∷ byte 0x02 ∷ byte 0x04 ∷ zeros 9
    ∷ byte 0x01 ∷ byte 0x01 ∷ byte 0x00 ∷ byte 0x0C ∷ zeros 28 ∷ text "ionoiinonni" ∷ byte 0x20 ∷ zeros 20
    ∷ text "ionoiinonni" ∷ blanks 13 ∷ byte 0xAB ∷ zeros 39
    ∷ byte 0x01 ∷ byte 0x01 ∷ byte 0x0B ∷ zeros 5 ∷ text "ionoiinonni" ∷ zeros 45 ∷ text "ionoiinonnoi" ∷ blanks 12
    ∷ text "[" ∷ byte 0x03 ∷ zeros 38
    ∷ byte 0x01 ∷ byte 0x01 ∷ byte 0x0C ∷ byte 0x10 ∷ zeros 4 ∷ text "ionoiinonni" ∷ byte 0x20 ∷ zeros 12
    ∷ text "ionoiinonniniiii" ∷ zeros 16 ∷ text "ionoiinonniniiii" ∷ blanks 8 ∷ byte 0xA8 ∷ byte 0x03 ∷ zeros 38
    ∷ byte 0x01 ∷ byte 0x02 ∷ byte 0x10 ∷ byte 0x0B ∷ zeros 4 ∷ text "ionoiinonniniiii" ∷ zeros 8 ∷ text "ionoiinonni"
    ∷ zeros 21 ∷ text "ionoiinonniniiinnnoi" ∷ blanks 4 ∷ byte 0xA3 ∷ zeros 7 ∷ text "ionoiinonniniiinnnoio" ∷ blanks 3
    ∷ byte 0xE6 ∷ zeros 7 ∷ []

abbrev pub file209 : Parts
file209 =
    text "TKF" ∷ byte 0x02 ∷ byte 0x00 ∷ byte 0x02 ∷ byte 0x04 ∷ zeros 9
    ∷ byte 0x01 ∷ byte 0x01 ∷ byte 0x00 ∷ byte 0x10 ∷ zeros 28 ∷ text "ionoiinonniniiii" ∷ zeros 16 ∷ text "ionoiinonni"
    ∷ blanks 13 ∷ byte 0xAB ∷ zeros 39
    ∷ byte 0x01 ∷ byte 0x01 ∷ byte 0x0B ∷ zeros 5 ∷ text "ionoiinonni" ∷ zeros 45 ∷ text "ionoiinonnoi" ∷ blanks 12
    ∷ text "[" ∷ byte 0x03 ∷ zeros 38
    ∷ zeros 128
    ∷ byte 0x01 ∷ byte 0x02 ∷ byte 0x10 ∷ byte 0x0B ∷ zeros 4 ∷ text "ionoiinonniniiii" ∷ zeros 8 ∷ text "ionoiinonni"
    ∷ zeros 21 ∷ text "ionoiinonniniiinnnoi" ∷ blanks 4 ∷ byte 0xA3 ∷ zeros 7 ∷ text "ionoiinonniniiinnnoio" ∷ blanks 3
    ∷ byte 0xE6 ∷ zeros 7 ∷ []

abbrev pub file210 : Parts
file210 =
    text "TKF" ∷ byte 0x01 ∷ byte 0x00 ∷ byte 0x02 ∷ byte 0x04 ∷ zeros 9
    ∷ byte 0x01 ∷ byte 0x02 ∷ byte 0x00 ∷ byte 0x02 ∷ zeros 28 ∷ text "b" ∷ byte 0x20 ∷ zeros 30 ∷ text "a" ∷ byte 0x20
    ∷ text "b" ∷ blanks 21 ∷ text "h" ∷ byte 0x03 ∷ zeros 6 ∷ text "b" ∷ blanks 23 ∷ text ">K<q" ∷ byte 0xEE ∷ byte 0x84
    ∷ text "v" ∷ byte 0xE8
    ∷ byte 0x01 ∷ byte 0x01 ∷ byte 0x03 ∷ zeros 5 ∷ text "bb" ∷ byte 0x20 ∷ zeros 53 ∷ text "bba" ∷ blanks 21
    ∷ byte 0x04 ∷ byte 0x02 ∷ zeros 38
    ∷ byte 0x01 ∷ byte 0x01 ∷ byte 0x02 ∷ byte 0x03 ∷ zeros 4 ∷ text "ba" ∷ zeros 22 ∷ text "bb" ∷ byte 0x20 ∷ zeros 29
    ∷ text "bb" ∷ blanks 22 ∷ text "G" ∷ byte 0x01 ∷ zeros 38
    ∷ byte 0x01 ∷ byte 0x01 ∷ byte 0x02 ∷ byte 0x02 ∷ zeros 4 ∷ text "b" ∷ byte 0x20 ∷ zeros 22 ∷ text "ba" ∷ zeros 30
    ∷ text "ba" ∷ blanks 22 ∷ text "[" ∷ byte 0x03 ∷ zeros 38 ∷ []

abbrev pub file211 : Parts
file211 =
    text "TKF" ∷ byte 0x01 ∷ byte 0x00 ∷ byte 0x02 ∷ byte 0x04 ∷ zeros 9
    ∷ byte 0x01 ∷ byte 0x02 ∷ byte 0x00 ∷ byte 0x02 ∷ zeros 28 ∷ text "b" ∷ byte 0x20 ∷ zeros 30 ∷ text "a" ∷ byte 0x20
    ∷ text "b" ∷ blanks 21 ∷ text "h" ∷ byte 0x03 ∷ zeros 6 ∷ text "b" ∷ blanks 23 ∷ text ">K<q" ∷ byte 0xEE ∷ byte 0x84
    ∷ text "v" ∷ byte 0xE8
    ∷ byte 0x01 ∷ byte 0x01 ∷ byte 0x03 ∷ zeros 5 ∷ text "bb" ∷ byte 0x20 ∷ zeros 53 ∷ text "bba" ∷ blanks 21
    ∷ byte 0x04 ∷ byte 0x02 ∷ zeros 38
    ∷ byte 0x01 ∷ byte 0x01 ∷ byte 0x02 ∷ zeros 5 ∷ text "ba" ∷ zeros 54 ∷ text "bb" ∷ blanks 22 ∷ text "G" ∷ byte 0x01
    ∷ zeros 38
    ∷ byte 0x01 ∷ byte 0x01 ∷ byte 0x02 ∷ byte 0x02 ∷ zeros 4 ∷ text "b" ∷ byte 0x20 ∷ zeros 22 ∷ text "ba" ∷ zeros 30
    ∷ text "ba" ∷ blanks 22 ∷ text "[" ∷ byte 0x03 ∷ zeros 38 ∷ []

abbrev pub file212 : Parts
file212 =
    text "TKF" ∷ byte 0x02 ∷ byte 0x00 ∷ byte 0x02 ∷ byte 0x04 ∷ zeros 9
    ∷ byte 0x01 ∷ byte 0x01 ∷ byte 0x00 ∷ byte 0x01 ∷ zeros 28 ∷ text "i" ∷ zeros 31 ∷ text "ion" ∷ blanks 21 ∷ text "("
    ∷ byte 0x02 ∷ zeros 38
    ∷ byte 0x01 ∷ byte 0x01 ∷ byte 0x01 ∷ zeros 5 ∷ text "n" ∷ zeros 55 ∷ text "ono" ∷ blanks 21 ∷ byte 0x1F ∷ byte 0x9C
    ∷ text "|" ∷ byte 0xDE ∷ byte 0xD4 ∷ text "M" ∷ byte 0x86 ∷ text "m" ∷ zeros 32
    ∷ byte 0x01 ∷ byte 0x01 ∷ byte 0x01 ∷ byte 0x02 ∷ zeros 4 ∷ text "i" ∷ zeros 23 ∷ text "nn" ∷ zeros 30 ∷ text "nnn"
    ∷ blanks 21 ∷ text "@" ∷ zeros 39
    ∷ byte 0x01 ∷ byte 0x01 ∷ byte 0x02 ∷ byte 0x01 ∷ zeros 4 ∷ text "nn" ∷ zeros 22 ∷ text "n" ∷ zeros 31 ∷ text "no"
    ∷ blanks 22 ∷ text "+X" ∷ byte 0xDB ∷ byte 0xA9 ∷ byte 0xCA ∷ text "_" ∷ byte 0xF9 ∷ byte 0xBF ∷ zeros 32 ∷ []

abbrev pub file213 : Parts
file213 =
    text "TKF" ∷ byte 0x02 ∷ byte 0x00 ∷ byte 0x02 ∷ byte 0x04 ∷ zeros 9
    ∷ byte 0x01 ∷ byte 0x01 ∷ byte 0x00 ∷ byte 0x01 ∷ zeros 28 ∷ text "i" ∷ zeros 31 ∷ text "ion" ∷ blanks 21 ∷ text "("
    ∷ byte 0x02 ∷ zeros 38
    ∷ byte 0x01 ∷ byte 0x01 ∷ byte 0x01 ∷ zeros 5 ∷ text "n" ∷ zeros 55 ∷ text "ono" ∷ blanks 21 ∷ byte 0x1F ∷ byte 0x9C
    ∷ text "|" ∷ byte 0xDE ∷ byte 0xD4 ∷ text "M" ∷ byte 0x86 ∷ text "m" ∷ zeros 32
    ∷ byte 0x01 ∷ byte 0x01 ∷ byte 0x01 ∷ byte 0x01 ∷ zeros 4 ∷ text "i" ∷ zeros 23 ∷ text "n" ∷ zeros 31 ∷ text "no"
    ∷ blanks 22 ∷ text "+X" ∷ byte 0xDB ∷ byte 0xA9 ∷ byte 0xCA ∷ text "_" ∷ byte 0xF9 ∷ byte 0xBF ∷ zeros 32
    ∷ zeros 128 ∷ []

abbrev pub file214 : Parts
file214 =
    text "TKF" ∷ byte 0x02 ∷ byte 0x00 ∷ byte 0x02 ∷ byte 0x04 ∷ zeros 9
    ∷ byte 0x01 ∷ zeros 2 ∷ byte 0x05 ∷ zeros 28 ∷ text "!}!!" ∷ byte 0x20 ∷ zeros 91
    ∷ byte 0x01 ∷ byte 0x01 ∷ byte 0x05 ∷ byte 0x05 ∷ zeros 4 ∷ text "!}!!" ∷ byte 0x20 ∷ zeros 19 ∷ text "!}!!!"
    ∷ zeros 27 ∷ text "!}!!!" ∷ blanks 19 ∷ byte 0x08 ∷ byte 0x01 ∷ zeros 38
    ∷ byte 0x01 ∷ byte 0x02 ∷ byte 0x05 ∷ zeros 5 ∷ text "!}!!!" ∷ zeros 51 ∷ text "!}!!}" ∷ blanks 19 ∷ byte 0x19
    ∷ byte 0x02 ∷ zeros 6 ∷ text "!}!!}}" ∷ blanks 18 ∷ byte 0xC9 ∷ byte 0xEA ∷ text "I" ∷ byte 0xBF ∷ text "r"
    ∷ byte 0xEA ∷ byte 0xD9 ∷ text "$"
    ∷ zeros 128 ∷ []

abbrev pub file215 : Parts
file215 =
    text "TKF" ∷ byte 0x02 ∷ byte 0x00 ∷ byte 0x02 ∷ byte 0x04 ∷ zeros 9
    ∷ byte 0x01 ∷ zeros 2 ∷ byte 0x05 ∷ zeros 28 ∷ text "!}!!!" ∷ zeros 91
    ∷ byte 0x01 ∷ byte 0x01 ∷ byte 0x05 ∷ byte 0x05 ∷ zeros 4 ∷ text "!}!!" ∷ byte 0x20 ∷ zeros 19 ∷ text "!}!!!"
    ∷ zeros 27 ∷ text "!}!!!" ∷ blanks 19 ∷ byte 0x08 ∷ byte 0x01 ∷ zeros 38
    ∷ byte 0x01 ∷ byte 0x02 ∷ byte 0x05 ∷ zeros 5 ∷ text "!}!!!" ∷ zeros 51 ∷ text "!}!!}" ∷ blanks 19 ∷ byte 0x19
    ∷ byte 0x02 ∷ zeros 6 ∷ text "!}!!}}" ∷ blanks 18 ∷ byte 0xC9 ∷ byte 0xEA ∷ text "I" ∷ byte 0xBF ∷ text "r"
    ∷ byte 0xEA ∷ byte 0xD9 ∷ text "$"
    ∷ zeros 128 ∷ []

abbrev pub file216 : Parts
file216 =
    text "TKF" ∷ byte 0x01 ∷ byte 0x00 ∷ byte 0x02 ∷ byte 0x04 ∷ zeros 9
    ∷ byte 0x01 ∷ byte 0x02 ∷ byte 0x00 ∷ byte 0x01 ∷ zeros 28 ∷ text "a" ∷ zeros 31 ∷ text "aa" ∷ blanks 22 ∷ byte 0xE7
    ∷ byte 0x01 ∷ zeros 6 ∷ text "abb" ∷ blanks 21 ∷ byte 0x11 ∷ byte 0x03 ∷ zeros 6
    ∷ byte 0x01 ∷ byte 0x01 ∷ byte 0x03 ∷ zeros 5 ∷ text "bb" ∷ byte 0x20 ∷ zeros 53 ∷ text "bbb" ∷ blanks 21 ∷ text "|"
    ∷ zeros 39
    ∷ byte 0x01 ∷ byte 0x02 ∷ byte 0x02 ∷ byte 0x03 ∷ zeros 4 ∷ text "b" ∷ byte 0x20 ∷ zeros 22 ∷ text "bb" ∷ byte 0x20
    ∷ zeros 29 ∷ text "ba" ∷ blanks 22 ∷ byte 0x9F ∷ byte 0x03 ∷ zeros 6 ∷ text "bb" ∷ blanks 22 ∷ text "%" ∷ byte 0x01
    ∷ zeros 6
    ∷ byte 0x01 ∷ byte 0x00 ∷ byte 0x01 ∷ byte 0x02 ∷ zeros 4 ∷ text "a" ∷ zeros 23 ∷ text "b" ∷ byte 0x20 ∷ zeros 94
    ∷ []

abbrev pub file217 : Parts
file217 =
    text "TKF" ∷ byte 0x01 ∷ byte 0x00 ∷ byte 0x02 ∷ byte 0x04 ∷ zeros 9
    ∷ byte 0x01 ∷ byte 0x02 ∷ byte 0x00 ∷ byte 0x01 ∷ zeros 28 ∷ text "a" ∷ zeros 31 ∷ text "aa" ∷ blanks 22 ∷ byte 0xE7
    ∷ byte 0x01 ∷ zeros 6 ∷ text "abb" ∷ blanks 21 ∷ byte 0x11 ∷ byte 0x03 ∷ zeros 6
    ∷ byte 0x01 ∷ byte 0x01 ∷ byte 0x03 ∷ zeros 5 ∷ text "bb" ∷ byte 0x20 ∷ zeros 53 ∷ text "bbb" ∷ blanks 21 ∷ text "|"
    ∷ zeros 39
    ∷ byte 0x01 ∷ byte 0x02 ∷ byte 0x02 ∷ byte 0x03 ∷ zeros 4 ∷ text "b" ∷ byte 0x20 ∷ zeros 22 ∷ text "bb" ∷ byte 0x20
    ∷ zeros 29 ∷ text "ba" ∷ blanks 22 ∷ byte 0x9F ∷ byte 0x03 ∷ zeros 6 ∷ text "bb" ∷ blanks 22 ∷ text "%" ∷ byte 0x01
    ∷ zeros 6
    ∷ byte 0x01 ∷ byte 0x01 ∷ byte 0x01 ∷ byte 0x03 ∷ zeros 4 ∷ text "a" ∷ zeros 23 ∷ text "bb" ∷ byte 0x20 ∷ zeros 29
    ∷ text "bb" ∷ blanks 22 ∷ text "%" ∷ byte 0x01 ∷ zeros 38 ∷ []

abbrev pub file218 : Parts
file218 =
    text "TKF" ∷ byte 0x02 ∷ byte 0x00 ∷ byte 0x02 ∷ byte 0x04 ∷ zeros 9
    ∷ byte 0x01 ∷ byte 0x02 ∷ byte 0x00 ∷ byte 0x05 ∷ zeros 28 ∷ text "iii" ∷ blanks 2 ∷ zeros 27 ∷ text "iii"
    ∷ blanks 21 ∷ byte 0x99 ∷ byte 0x01 ∷ zeros 6 ∷ text "iii" ∷ blanks 2 ∷ text "n" ∷ blanks 18 ∷ byte 0x1C ∷ byte 0x01
    ∷ zeros 6
    ∷ byte 0x01 ∷ byte 0x01 ∷ byte 0x04 ∷ zeros 5 ∷ text "iiii" ∷ zeros 52 ∷ text "iiinn" ∷ blanks 19 ∷ byte 0xEF
    ∷ byte 0xD7 ∷ text "c" ∷ byte 0x19 ∷ byte 0x93 ∷ byte 0x95 ∷ byte 0xC7 ∷ text "A" ∷ zeros 32
    ∷ byte 0x01 ∷ byte 0x01 ∷ byte 0x04 ∷ byte 0x04 ∷ zeros 4 ∷ text "iii" ∷ byte 0x20 ∷ zeros 20 ∷ text "iiii"
    ∷ zeros 28 ∷ text "iiii" ∷ blanks 20 ∷ byte 0xCA ∷ byte 0x03 ∷ zeros 38
    ∷ byte 0x01 ∷ byte 0x01 ∷ byte 0x05 ∷ byte 0x04 ∷ zeros 4 ∷ text "iii" ∷ blanks 2 ∷ zeros 19 ∷ text "iii"
    ∷ byte 0x20 ∷ zeros 28 ∷ text "iii" ∷ byte 0x20 ∷ text "i" ∷ blanks 19 ∷ byte 0x02 ∷ byte 0x01 ∷ zeros 38 ∷ []

abbrev pub file219 : Parts
file219 =
    text "TKF" ∷ byte 0x02 ∷ byte 0x00 ∷ byte 0x02 ∷ byte 0x04 ∷ zeros 9
    ∷ byte 0x01 ∷ byte 0x02 ∷ byte 0x00 ∷ byte 0x05 ∷ zeros 28 ∷ text "iii" ∷ blanks 2 ∷ zeros 27 ∷ text "iii"
    ∷ blanks 21 ∷ byte 0x99 ∷ byte 0x01 ∷ zeros 6 ∷ text "iii" ∷ blanks 2 ∷ text "n" ∷ blanks 18 ∷ byte 0x1C ∷ byte 0x01
    ∷ zeros 6
    ∷ byte 0x01 ∷ byte 0x01 ∷ byte 0x04 ∷ zeros 5 ∷ text "iiii" ∷ zeros 52 ∷ text "iiinn" ∷ blanks 19 ∷ byte 0xEF
    ∷ byte 0xD7 ∷ text "c" ∷ byte 0x19 ∷ byte 0x93 ∷ byte 0x95 ∷ byte 0xC7 ∷ text "A" ∷ zeros 32
    ∷ zeros 128
    ∷ byte 0x01 ∷ byte 0x01 ∷ byte 0x05 ∷ byte 0x04 ∷ zeros 4 ∷ text "iii" ∷ blanks 2 ∷ zeros 19 ∷ text "iiii"
    ∷ zeros 28 ∷ text "iiii" ∷ blanks 20 ∷ byte 0xCA ∷ byte 0x03 ∷ zeros 38 ∷ []

abbrev pub file220 : Parts
file220 =
    text "TKF" ∷ byte 0x01 ∷ byte 0x00 ∷ byte 0x02 ∷ byte 0x04 ∷ zeros 9
    ∷ byte 0x01 ∷ byte 0x01 ∷ byte 0x00 ∷ byte 0x03 ∷ zeros 28 ∷ text "baa" ∷ zeros 29 ∷ text "ba" ∷ blanks 22
    ∷ byte 0x80 ∷ zeros 39
    ∷ byte 0x01 ∷ byte 0x01 ∷ byte 0x03 ∷ zeros 5 ∷ text "baa" ∷ zeros 53 ∷ text "bab" ∷ blanks 21 ∷ text "#"
    ∷ byte 0x02 ∷ zeros 38
    ∷ zeros 128
    ∷ zeros 128 ∷ []

abbrev pub file221 : Parts
file221 =
    text "TKF" ∷ byte 0x01 ∷ byte 0x00 ∷ byte 0x02 ∷ byte 0x04 ∷ zeros 9
    ∷ byte 0x01 ∷ byte 0x01 ∷ zeros 62 ∷ text "ba" ∷ blanks 22 ∷ byte 0x80 ∷ zeros 39
    ∷ zeros 128
    ∷ zeros 128
    ∷ zeros 128 ∷ []

abbrev pub file222 : Parts
file222 =
    text "TKF" ∷ byte 0x01 ∷ byte 0x00 ∷ byte 0x02 ∷ byte 0x03 ∷ zeros 9
    ∷ byte 0x01 ∷ byte 0x02 ∷ byte 0x00 ∷ byte 0x02 ∷ zeros 28 ∷ text "b" ∷ byte 0x20 ∷ zeros 30 ∷ text "a" ∷ blanks 23
    ∷ zeros 8 ∷ text "b" ∷ blanks 23 ∷ byte 0x13 ∷ text "l8" ∷ byte 0x8E ∷ text ">" ∷ byte 0x7E ∷ byte 0xFE ∷ byte 0xA9
    ∷ byte 0x01 ∷ byte 0x01 ∷ byte 0x02 ∷ zeros 5 ∷ text "b" ∷ byte 0x20 ∷ zeros 54 ∷ text "bb" ∷ blanks 22 ∷ byte 0xBC
    ∷ zeros 39
    ∷ zeros 128 ∷ []

abbrev pub file223 : Parts
file223 =
    text "TKF" ∷ byte 0x01 ∷ byte 0x00 ∷ byte 0x03 ∷ byte 0x02 ∷ zeros 9
    ∷ byte 0x01 ∷ byte 0x02 ∷ byte 0x00 ∷ byte 0x05 ∷ zeros 28 ∷ text "iinii" ∷ zeros 27 ∷ text "iini" ∷ blanks 20
    ∷ byte 0xF0 ∷ zeros 7 ∷ text "iiniino" ∷ blanks 17 ∷ text "T" ∷ byte 0x20 ∷ byte 0xB6 ∷ text "s" ∷ byte 0xF7
    ∷ byte 0x0A ∷ byte 0xC1 ∷ byte 0x94 ∷ zeros 32
    ∷ byte 0x01 ∷ byte 0x02 ∷ byte 0x05 ∷ zeros 5 ∷ text "iinim" ∷ zeros 51 ∷ text "iinio" ∷ blanks 19 ∷ byte 0xDA
    ∷ text "r" ∷ byte 0xD6 ∷ text "XQ" ∷ byte 0xF6 ∷ byte 0xCA ∷ text "niinioi" ∷ blanks 18 ∷ text "s" ∷ zeros 39 ∷ []

abbrev pub file224 : Parts
file224 =
    text "TKF" ∷ byte 0x01 ∷ byte 0x00 ∷ byte 0x03 ∷ byte 0x03 ∷ zeros 9
    ∷ byte 0x01 ∷ byte 0x03 ∷ byte 0x00 ∷ byte 0x02 ∷ zeros 28 ∷ text "!!" ∷ zeros 30 ∷ text "!" ∷ blanks 23 ∷ text "."
    ∷ zeros 7 ∷ text "!!!" ∷ blanks 21 ∷ byte 0xA3 ∷ byte 0x03 ∷ zeros 6 ∷ text "!!}" ∷ blanks 21 ∷ byte 0xF1
    ∷ byte 0x01 ∷ zeros 6
    ∷ byte 0x01 ∷ byte 0x02 ∷ byte 0x01 ∷ zeros 5 ∷ text "!" ∷ zeros 55 ∷ text "}!!" ∷ blanks 21 ∷ text "," ∷ zeros 7
    ∷ text "}}" ∷ blanks 22 ∷ byte 0x89 ∷ byte 0xE1 ∷ byte 0x08 ∷ byte 0xB1 ∷ text "(X" ∷ byte 0x22 ∷ byte 0x8D
    ∷ zeros 32
    ∷ byte 0x01 ∷ byte 0x01 ∷ byte 0x02 ∷ byte 0x01 ∷ zeros 4 ∷ text "!!" ∷ zeros 22 ∷ text "!" ∷ zeros 31 ∷ text "!}!"
    ∷ blanks 21 ∷ text "A" ∷ byte 0x03 ∷ zeros 70 ∷ []

abbrev pub file225 : Parts
file225 =
    text "TKF" ∷ byte 0x01 ∷ byte 0x00 ∷ byte 0x03 ∷ byte 0x04 ∷ zeros 9
    ∷ byte 0x01 ∷ byte 0x02 ∷ byte 0x00 ∷ byte 0x02 ∷ zeros 28 ∷ text "o" ∷ byte 0x20 ∷ zeros 30 ∷ text "i" ∷ blanks 23
    ∷ text "{" ∷ byte 0xC1 ∷ byte 0xA9 ∷ text "}AbK" ∷ byte 0x5C ∷ text "o" ∷ blanks 23 ∷ byte 0xFE ∷ text "$2"
    ∷ byte 0x92 ∷ byte 0xB8 ∷ text "[" ∷ byte 0xE6 ∷ text "+" ∷ zeros 32
    ∷ byte 0x01 ∷ byte 0x03 ∷ byte 0x02 ∷ zeros 5 ∷ text "o" ∷ byte 0x20 ∷ zeros 54 ∷ text "oo" ∷ blanks 22 ∷ byte 0x88
    ∷ zeros 7 ∷ text "oonn" ∷ blanks 20 ∷ byte 0x8F ∷ zeros 7 ∷ text "ooooi" ∷ blanks 19 ∷ byte 0x17 ∷ byte 0x01
    ∷ zeros 6
    ∷ zeros 160
    ∷ zeros 160 ∷ []

abbrev pub file226 : Parts
file226 =
    text "TKF" ∷ byte 0x03 ∷ byte 0x00 ∷ byte 0x02 ∷ byte 0x03 ∷ zeros 9
    ∷ byte 0x01 ∷ byte 0x01 ∷ byte 0x00 ∷ byte 0x02 ∷ zeros 28 ∷ text "a" ∷ byte 0x20 ∷ zeros 30 ∷ text "a" ∷ blanks 23
    ∷ text "$" ∷ byte 0xDE ∷ byte 0xC0 ∷ byte 0xB8 ∷ byte 0xAC ∷ byte 0xBC ∷ byte 0xB9 ∷ text "`" ∷ byte 0xFF
    ∷ byte 0xFF ∷ byte 0xFF ∷ byte 0xFF ∷ byte 0xFF ∷ byte 0xFF ∷ byte 0xFF ∷ byte 0xFF ∷ zeros 40
    ∷ byte 0x01 ∷ byte 0x01 ∷ byte 0x01 ∷ zeros 5 ∷ text "a" ∷ zeros 55 ∷ text "b" ∷ blanks 23 ∷ byte 0xCB ∷ zeros 7
    ∷ byte 0x03 ∷ zeros 47
    ∷ byte 0x01 ∷ byte 0x02 ∷ byte 0x02 ∷ byte 0x01 ∷ zeros 4 ∷ text "a" ∷ byte 0x20 ∷ zeros 22 ∷ text "a" ∷ zeros 31
    ∷ text "ab" ∷ blanks 22 ∷ text "G" ∷ byte 0x02 ∷ zeros 14 ∷ text "aba" ∷ blanks 21 ∷ byte 0x90 ∷ byte 0x01 ∷ zeros 6
    ∷ byte 0x03 ∷ zeros 7 ∷ []

abbrev pub file227 : Parts
file227 =
    text "TKF" ∷ byte 0x02 ∷ byte 0x00 ∷ byte 0x02 ∷ byte 0x02 ∷ zeros 9
    ∷ byte 0x01 ∷ byte 0x02 ∷ byte 0x00 ∷ byte 0x03 ∷ zeros 28 ∷ text "rt" ∷ byte 0x20 ∷ zeros 29 ∷ text "rrr"
    ∷ blanks 21 ∷ text "T" ∷ byte 0x01 ∷ zeros 6 ∷ text "rt" ∷ blanks 22 ∷ text "n" ∷ byte 0x02 ∷ zeros 6
    ∷ byte 0x01 ∷ byte 0x02 ∷ byte 0x03 ∷ zeros 5 ∷ text "rt" ∷ byte 0x20 ∷ zeros 53 ∷ text "rtr" ∷ blanks 21
    ∷ byte 0xC2 ∷ byte 0x03 ∷ zeros 6 ∷ text "rtrs" ∷ blanks 20 ∷ text "f" ∷ zeros 7 ∷ []

abbrev pub file228 : Parts
file228 =
    text "TKF" ∷ byte 0x01 ∷ byte 0x00 ∷ byte 0x02 ∷ byte 0x03 ∷ zeros 9
    ∷ byte 0x01 ∷ byte 0x02 ∷ byte 0x00 ∷ byte 0x05 ∷ zeros 28 ∷ text "baaaa" ∷ zeros 27 ∷ text "baa" ∷ byte 0x20
    ∷ text "a" ∷ blanks 19 ∷ byte 0xCC ∷ byte 0x03 ∷ zeros 6 ∷ text "baaaaa" ∷ blanks 18 ∷ byte 0x03 ∷ byte 0xB1
    ∷ text "$" ∷ byte 0x9F ∷ byte 0xEE ∷ byte 0x14 ∷ byte 0x9A ∷ text "["
    ∷ byte 0x01 ∷ byte 0x01 ∷ byte 0x05 ∷ zeros 5 ∷ text "baaaa" ∷ zeros 51 ∷ text "baaab" ∷ blanks 19 ∷ byte 0xFF
    ∷ byte 0xFF ∷ byte 0xFF ∷ byte 0xFF ∷ byte 0xFF ∷ byte 0xFF ∷ byte 0xFF ∷ byte 0xFF ∷ zeros 32
    ∷ zeros 128 ∷ []

abbrev pub file229 : Parts
file229 =
    text "TKF" ∷ byte 0x01 ∷ byte 0x00 ∷ byte 0x02 ∷ byte 0x03 ∷ zeros 9
    ∷ byte 0x01 ∷ byte 0x02 ∷ byte 0x00 ∷ byte 0x06 ∷ zeros 28 ∷ text "iioio" ∷ byte 0x20 ∷ zeros 26 ∷ text "iioiinn"
    ∷ blanks 17 ∷ byte 0x0A ∷ text "r" ∷ byte 0x96 ∷ text "QJ" ∷ byte 0x81 ∷ text "^4iioio" ∷ blanks 19 ∷ text "4"
    ∷ byte 0x03 ∷ zeros 6
    ∷ byte 0x01 ∷ byte 0x00 ∷ byte 0x06 ∷ zeros 5 ∷ text "iioio" ∷ byte 0x20 ∷ zeros 114
    ∷ zeros 128 ∷ []

abbrev pub file230 : Parts
file230 =
    text "TKF" ∷ byte 0x01 ∷ byte 0x00 ∷ byte 0x03 ∷ byte 0x04 ∷ zeros 9
    ∷ byte 0x01 ∷ byte 0x03 ∷ byte 0x00 ∷ byte 0x04 ∷ zeros 28 ∷ text "oonn" ∷ zeros 28 ∷ text "ion" ∷ blanks 21
    ∷ text "U" ∷ byte 0x03 ∷ zeros 6 ∷ text "oon" ∷ blanks 21 ∷ byte 0xC1 ∷ byte 0x03 ∷ zeros 6 ∷ text "oonn"
    ∷ blanks 20 ∷ byte 0x9D ∷ zeros 7
    ∷ byte 0x01 ∷ byte 0x03 ∷ byte 0x04 ∷ zeros 5 ∷ text "oonn" ∷ zeros 52 ∷ text "oono" ∷ blanks 20 ∷ text "LE"
    ∷ byte 0xFD ∷ byte 0xFE ∷ byte 0xE7 ∷ byte 0xD1 ∷ byte 0xAD ∷ text "noonoi" ∷ blanks 19 ∷ byte 0xD9 ∷ zeros 7
    ∷ text "oonoo" ∷ blanks 19 ∷ byte 0xAA ∷ byte 0x03 ∷ zeros 6
    ∷ zeros 160
    ∷ zeros 160 ∷ []

abbrev pub file231 : Parts
file231 =
    text "TKF" ∷ byte 0x02 ∷ byte 0x00 ∷ byte 0x03 ∷ byte 0x02 ∷ zeros 9
    ∷ byte 0x01 ∷ byte 0x03 ∷ byte 0x00 ∷ byte 0x02 ∷ zeros 28 ∷ text "!a" ∷ zeros 30 ∷ text "!" ∷ blanks 23 ∷ byte 0x1C
    ∷ byte 0xB8 ∷ text "X" ∷ byte 0x0C ∷ text "V" ∷ byte 0xE1 ∷ byte 0xCB ∷ text "8!a" ∷ blanks 22 ∷ byte 0xF3
    ∷ byte 0xBE ∷ text "g7" ∷ byte 0xA8 ∷ text "[" ∷ byte 0xBD ∷ text "5!a}" ∷ blanks 21 ∷ byte 0x87 ∷ zeros 7
    ∷ byte 0x01 ∷ byte 0x02 ∷ byte 0x02 ∷ zeros 5 ∷ text "!a" ∷ zeros 54 ∷ text "!}" ∷ blanks 22 ∷ byte 0xFF ∷ byte 0xFF
    ∷ byte 0xFF ∷ byte 0xFF ∷ byte 0xFF ∷ byte 0xFF ∷ byte 0xFF ∷ byte 0xFF ∷ text "!}}" ∷ blanks 21 ∷ byte 0x8C
    ∷ byte 0x01 ∷ zeros 38 ∷ []

abbrev pub file232 : Parts
file232 =
    text "TKF" ∷ byte 0x02 ∷ byte 0x00 ∷ byte 0x03 ∷ byte 0x03 ∷ zeros 9
    ∷ byte 0x01 ∷ byte 0x02 ∷ byte 0x00 ∷ byte 0x04 ∷ zeros 28 ∷ text "nnoi" ∷ zeros 28 ∷ text "nno" ∷ blanks 21
    ∷ text ";" ∷ zeros 7 ∷ text "nnoioo" ∷ blanks 18 ∷ text "l" ∷ byte 0xED ∷ text "9" ∷ byte 0x95 ∷ text "q"
    ∷ byte 0x06 ∷ text "Y" ∷ byte 0x1D ∷ zeros 32
    ∷ byte 0x01 ∷ byte 0x02 ∷ byte 0x04 ∷ zeros 5 ∷ text "nnoi" ∷ zeros 52 ∷ text "nnoo" ∷ blanks 20 ∷ byte 0x8C
    ∷ byte 0x01 ∷ zeros 6 ∷ text "nnooo" ∷ blanks 19 ∷ text "F" ∷ byte 0x03 ∷ zeros 38
    ∷ zeros 160 ∷ []

abbrev pub file233 : Parts
file233 =
    text "TKF" ∷ byte 0x03 ∷ byte 0x00 ∷ byte 0x03 ∷ byte 0x03 ∷ zeros 9
    ∷ byte 0x01 ∷ byte 0x03 ∷ zeros 62 ∷ text "b" ∷ blanks 23 ∷ byte 0xFC ∷ zeros 15 ∷ text "bbaa" ∷ blanks 20
    ∷ byte 0xDE ∷ byte 0x01 ∷ zeros 14 ∷ text "bbb" ∷ blanks 21 ∷ text "c" ∷ byte 0x03 ∷ zeros 6 ∷ byte 0xFF ∷ byte 0xFF
    ∷ byte 0xFF ∷ byte 0xFF ∷ byte 0xFF ∷ byte 0xFF ∷ byte 0xFF ∷ byte 0xFF
    ∷ byte 0x01 ∷ byte 0x02 ∷ byte 0x02 ∷ zeros 5 ∷ text "ba" ∷ zeros 54 ∷ text "bbaa" ∷ blanks 20 ∷ byte 0xDE
    ∷ byte 0x01 ∷ zeros 14 ∷ text "bbb" ∷ blanks 21 ∷ text "c" ∷ byte 0x03 ∷ zeros 6 ∷ byte 0xFF ∷ byte 0xFF ∷ byte 0xFF
    ∷ byte 0xFF ∷ byte 0xFF ∷ byte 0xFF ∷ byte 0xFF ∷ byte 0xFF ∷ zeros 40
    ∷ zeros 184 ∷ []

abbrev pub file234 : Parts
file234 =
    text "TKF" ∷ byte 0x01 ∷ byte 0x00 ∷ byte 0x02 ∷ byte 0x04 ∷ zeros 9
    ∷ byte 0x01 ∷ zeros 127
    ∷ zeros 128
    ∷ zeros 128
    ∷ zeros 128 ∷ []

abbrev pub file235 : Parts
file235 =
    text "TKF" ∷ byte 0x01 ∷ byte 0x00 ∷ byte 0x02 ∷ byte 0x04 ∷ zeros 9
    ∷ byte 0x01 ∷ byte 0x01 ∷ zeros 62 ∷ text "rate1" ∷ blanks 19 ∷ byte 0x01 ∷ zeros 39
    ∷ zeros 128
    ∷ zeros 128
    ∷ zeros 128 ∷ []

abbrev pub file236 : Parts
file236 =
    text "TKF" ∷ byte 0x01 ∷ byte 0x00 ∷ byte 0x02 ∷ byte 0x04 ∷ zeros 9
    ∷ byte 0x01 ∷ byte 0x02 ∷ zeros 62 ∷ text "rate1" ∷ blanks 19 ∷ byte 0x01 ∷ zeros 7 ∷ text "rate2" ∷ blanks 19
    ∷ byte 0x02 ∷ zeros 7
    ∷ zeros 128
    ∷ zeros 128
    ∷ zeros 128 ∷ []

abbrev pub file237 : Parts
file237 =
    text "TKF" ∷ byte 0x01 ∷ byte 0x00 ∷ byte 0x02 ∷ byte 0x04 ∷ zeros 9
    ∷ byte 0x01 ∷ byte 0x02 ∷ byte 0x00 ∷ byte 0x05 ∷ zeros 28 ∷ text "rate2" ∷ zeros 27 ∷ text "rate1" ∷ blanks 19
    ∷ byte 0x01 ∷ zeros 7 ∷ text "rate2" ∷ blanks 19 ∷ byte 0x02 ∷ zeros 7
    ∷ byte 0x01 ∷ byte 0x01 ∷ byte 0x05 ∷ zeros 5 ∷ text "rate2" ∷ zeros 51 ∷ text "rate3" ∷ blanks 19 ∷ byte 0x03
    ∷ zeros 39
    ∷ zeros 128
    ∷ zeros 128 ∷ []

abbrev pub file238 : Parts
file238 =
    text "TKF" ∷ byte 0x01 ∷ byte 0x00 ∷ byte 0x02 ∷ byte 0x04 ∷ zeros 9
    ∷ byte 0x01 ∷ byte 0x02 ∷ byte 0x00 ∷ byte 0x05 ∷ zeros 28 ∷ text "rate2" ∷ zeros 27 ∷ text "rate1" ∷ blanks 19
    ∷ byte 0x01 ∷ zeros 7 ∷ text "rate2" ∷ blanks 19 ∷ byte 0x02 ∷ zeros 7
    ∷ byte 0x01 ∷ byte 0x02 ∷ byte 0x05 ∷ zeros 5 ∷ text "rate2" ∷ zeros 51 ∷ text "rate3" ∷ blanks 19 ∷ byte 0x03
    ∷ zeros 7 ∷ text "razz" ∷ blanks 20 ∷ byte 0x04 ∷ zeros 7
    ∷ zeros 128
    ∷ zeros 128 ∷ []

abbrev pub file239 : Parts
file239 =
    text "TKF" ∷ byte 0x01 ∷ byte 0x00 ∷ byte 0x02 ∷ byte 0x04 ∷ zeros 9
    ∷ byte 0x01 ∷ byte 0x02 ∷ byte 0x00 ∷ byte 0x05 ∷ zeros 28 ∷ text "rate2" ∷ zeros 27 ∷ text "rate1" ∷ blanks 19
    ∷ byte 0x01 ∷ zeros 7 ∷ text "rate2" ∷ blanks 19 ∷ byte 0x02 ∷ zeros 7
    ∷ byte 0x01 ∷ byte 0x02 ∷ byte 0x05 ∷ byte 0x02 ∷ zeros 4 ∷ text "rate2" ∷ zeros 19 ∷ text "ra" ∷ zeros 30
    ∷ text "rate3" ∷ blanks 19 ∷ byte 0x03 ∷ zeros 7 ∷ text "razz" ∷ blanks 20 ∷ byte 0x04 ∷ zeros 7
    ∷ byte 0x01 ∷ byte 0x01 ∷ byte 0x02 ∷ zeros 5 ∷ text "ra" ∷ zeros 54 ∷ text "rz" ∷ blanks 22 ∷ byte 0x05 ∷ zeros 39
    ∷ zeros 128 ∷ []

abbrev pub file240 : Parts
file240 =
    text "TKF" ∷ byte 0x01 ∷ byte 0x00 ∷ byte 0x02 ∷ byte 0x04 ∷ zeros 9
    ∷ byte 0x01 ∷ byte 0x02 ∷ byte 0x00 ∷ byte 0x05 ∷ zeros 28 ∷ text "rate2" ∷ zeros 27 ∷ text "rate1" ∷ blanks 19
    ∷ byte 0x01 ∷ zeros 7 ∷ text "rate2" ∷ blanks 19 ∷ byte 0x02 ∷ zeros 7
    ∷ byte 0x01 ∷ byte 0x02 ∷ byte 0x05 ∷ zeros 5 ∷ text "rate2" ∷ zeros 51 ∷ text "rate3" ∷ blanks 19 ∷ byte 0x03
    ∷ zeros 7 ∷ text "razz" ∷ blanks 20 ∷ byte 0x04 ∷ zeros 7
    ∷ byte 0x01 ∷ byte 0x01 ∷ byte 0x02 ∷ zeros 5 ∷ text "ra" ∷ zeros 54 ∷ text "rz" ∷ blanks 22 ∷ byte 0x05 ∷ zeros 39
    ∷ zeros 128 ∷ []

abbrev pub file241 : Parts
file241 =
    text "TKF" ∷ byte 0x02 ∷ byte 0x00 ∷ byte 0x04 ∷ byte 0x02 ∷ zeros 9
    ∷ byte 0x01 ∷ byte 0x04 ∷ zeros 62 ∷ text "and" ∷ blanks 21 ∷ byte 0x01 ∷ zeros 7 ∷ text "i" ∷ blanks 23 ∷ byte 0x01
    ∷ zeros 7 ∷ text "in" ∷ blanks 22 ∷ byte 0x01 ∷ zeros 7 ∷ text "is" ∷ blanks 22 ∷ byte 0x01 ∷ zeros 7
    ∷ zeros 192 ∷ []

abbrev pub file242 : Parts
file242 =
    text "TKF" ∷ byte 0x02 ∷ byte 0x00 ∷ byte 0x04 ∷ byte 0x02 ∷ zeros 9
    ∷ byte 0x01 ∷ byte 0x02 ∷ byte 0x00 ∷ byte 0x01 ∷ zeros 28 ∷ text "a" ∷ zeros 31 ∷ text "a" ∷ blanks 23 ∷ byte 0x02
    ∷ zeros 7 ∷ text "and" ∷ blanks 21 ∷ byte 0x01 ∷ zeros 71
    ∷ byte 0x01 ∷ byte 0x03 ∷ byte 0x01 ∷ zeros 5 ∷ text "a" ∷ zeros 55 ∷ text "i" ∷ blanks 23 ∷ byte 0x01 ∷ zeros 7
    ∷ text "in" ∷ blanks 22 ∷ byte 0x01 ∷ zeros 7 ∷ text "is" ∷ blanks 22 ∷ byte 0x01 ∷ zeros 39 ∷ []

abbrev pub file243 : Parts
file243 =
    text "TKF" ∷ byte 0x01 ∷ byte 0x00 ∷ byte 0x04 ∷ byte 0x02 ∷ zeros 9
    ∷ byte 0x01 ∷ byte 0x04 ∷ zeros 62 ∷ text "and" ∷ blanks 21 ∷ byte 0x01 ∷ zeros 7 ∷ text "i" ∷ blanks 23 ∷ byte 0x01
    ∷ zeros 7 ∷ text "in" ∷ blanks 22 ∷ byte 0x01 ∷ zeros 7 ∷ text "is" ∷ blanks 22 ∷ byte 0x01 ∷ zeros 7
    ∷ zeros 192 ∷ []

abbrev pub file244 : Parts
file244 =
    text "TKF" ∷ byte 0x01 ∷ byte 0x00 ∷ byte 0x04 ∷ byte 0x02 ∷ zeros 9
    ∷ byte 0x01 ∷ byte 0x03 ∷ byte 0x00 ∷ byte 0x02 ∷ zeros 28 ∷ text "i" ∷ byte 0x20 ∷ zeros 30 ∷ text "a" ∷ blanks 23
    ∷ byte 0x02 ∷ zeros 7 ∷ text "and" ∷ blanks 21 ∷ byte 0x01 ∷ zeros 7 ∷ text "i" ∷ blanks 23 ∷ byte 0x01 ∷ zeros 39
    ∷ byte 0x01 ∷ byte 0x02 ∷ byte 0x02 ∷ zeros 5 ∷ text "i" ∷ byte 0x20 ∷ zeros 54 ∷ text "in" ∷ blanks 22 ∷ byte 0x01
    ∷ zeros 7 ∷ text "is" ∷ blanks 22 ∷ byte 0x01 ∷ zeros 71 ∷ []

abbrev pub file245 : Parts
file245 =
    text "TKF" ∷ byte 0x02 ∷ byte 0x00 ∷ byte 0x02 ∷ byte 0x02 ∷ zeros 9
    ∷ byte 0x01 ∷ byte 0x02 ∷ zeros 62 ∷ text "a" ∷ blanks 23 ∷ byte 0x01 ∷ zeros 7 ∷ text "abc" ∷ blanks 21 ∷ byte 0x01
    ∷ zeros 7
    ∷ zeros 128 ∷ []

abbrev pub file246 : Parts
file246 =
    text "TKF" ∷ byte 0x02 ∷ byte 0x00 ∷ byte 0x02 ∷ byte 0x02 ∷ zeros 9
    ∷ byte 0x01 ∷ byte 0x01 ∷ byte 0x00 ∷ byte 0x02 ∷ zeros 28 ∷ text "a" ∷ byte 0x20 ∷ zeros 30 ∷ text "a" ∷ blanks 23
    ∷ byte 0x01 ∷ zeros 39
    ∷ byte 0x01 ∷ byte 0x02 ∷ byte 0x02 ∷ zeros 5 ∷ text "a" ∷ byte 0x20 ∷ zeros 54 ∷ text "ab" ∷ blanks 22 ∷ byte 0x02
    ∷ zeros 7 ∷ text "abc" ∷ blanks 21 ∷ byte 0x01 ∷ zeros 7 ∷ []

abbrev pub file247 : Parts
file247 =
    text "TKF" ∷ byte 0x01 ∷ byte 0x00 ∷ byte 0x02 ∷ byte 0x02 ∷ zeros 9
    ∷ byte 0x01 ∷ byte 0x02 ∷ zeros 62 ∷ text "a" ∷ blanks 23 ∷ byte 0x01 ∷ zeros 7 ∷ text "abc" ∷ blanks 21 ∷ byte 0x01
    ∷ zeros 7
    ∷ zeros 128 ∷ []

abbrev pub file248 : Parts
file248 =
    text "TKF" ∷ byte 0x01 ∷ byte 0x00 ∷ byte 0x02 ∷ byte 0x02 ∷ zeros 9
    ∷ byte 0x01 ∷ byte 0x02 ∷ byte 0x00 ∷ byte 0x03 ∷ zeros 28 ∷ text "ab" ∷ byte 0x20 ∷ zeros 29 ∷ text "a" ∷ blanks 23
    ∷ byte 0x01 ∷ zeros 7 ∷ text "ab" ∷ blanks 22 ∷ byte 0x02 ∷ zeros 7
    ∷ byte 0x01 ∷ byte 0x01 ∷ byte 0x03 ∷ zeros 5 ∷ text "ab" ∷ byte 0x20 ∷ zeros 53 ∷ text "abc" ∷ blanks 21
    ∷ byte 0x01 ∷ zeros 39 ∷ []

abbrev pub file249 : Parts
file249 =
    text "TKF" ∷ byte 0x02 ∷ byte 0x00 ∷ byte 0x02 ∷ byte 0x02 ∷ zeros 9
    ∷ byte 0x01 ∷ byte 0x02 ∷ zeros 62 ∷ text "r2" ∷ blanks 22 ∷ byte 0x01 ∷ zeros 7 ∷ text "r3" ∷ blanks 22 ∷ byte 0x01
    ∷ zeros 7
    ∷ zeros 128 ∷ []

abbrev pub file250 : Parts
file250 =
    text "TKF" ∷ byte 0x02 ∷ byte 0x00 ∷ byte 0x02 ∷ byte 0x02 ∷ zeros 9
    ∷ byte 0x01 ∷ byte 0x02 ∷ byte 0x00 ∷ byte 0x02 ∷ zeros 28 ∷ text "r2" ∷ zeros 30 ∷ text "r1" ∷ blanks 22
    ∷ byte 0x02 ∷ zeros 7 ∷ text "r2" ∷ blanks 22 ∷ byte 0x01 ∷ zeros 7
    ∷ byte 0x01 ∷ byte 0x01 ∷ byte 0x02 ∷ zeros 5 ∷ text "r2" ∷ zeros 54 ∷ text "r3" ∷ blanks 22 ∷ byte 0x01 ∷ zeros 39
    ∷ []

abbrev pub file251 : Parts
file251 =
    text "TKF" ∷ byte 0x01 ∷ byte 0x00 ∷ byte 0x02 ∷ byte 0x02 ∷ zeros 9
    ∷ byte 0x01 ∷ byte 0x02 ∷ zeros 62 ∷ text "r2" ∷ blanks 22 ∷ byte 0x01 ∷ zeros 7 ∷ text "r3" ∷ blanks 22 ∷ byte 0x01
    ∷ zeros 7
    ∷ zeros 128 ∷ []

abbrev pub file252 : Parts
file252 =
    text "TKF" ∷ byte 0x01 ∷ byte 0x00 ∷ byte 0x02 ∷ byte 0x02 ∷ zeros 9
    ∷ byte 0x01 ∷ byte 0x02 ∷ byte 0x00 ∷ byte 0x02 ∷ zeros 28 ∷ text "r2" ∷ zeros 30 ∷ text "r1" ∷ blanks 22
    ∷ byte 0x02 ∷ zeros 7 ∷ text "r2" ∷ blanks 22 ∷ byte 0x01 ∷ zeros 7
    ∷ byte 0x01 ∷ byte 0x01 ∷ byte 0x02 ∷ zeros 5 ∷ text "r2" ∷ zeros 54 ∷ text "r3" ∷ blanks 22 ∷ byte 0x01 ∷ zeros 39
    ∷ []

abbrev pub file253 : Parts
file253 =
    text "TKF" ∷ byte 0x02 ∷ byte 0x00 ∷ byte 0x04 ∷ byte 0x02 ∷ zeros 9
    ∷ byte 0x01 ∷ byte 0x04 ∷ zeros 62 ∷ text "a" ∷ blanks 23 ∷ byte 0x01 ∷ zeros 7 ∷ text "b" ∷ blanks 23 ∷ byte 0x01
    ∷ zeros 7 ∷ text "cb" ∷ blanks 22 ∷ byte 0x01 ∷ zeros 7 ∷ text "d" ∷ blanks 23 ∷ byte 0x01 ∷ zeros 7
    ∷ zeros 192 ∷ []

abbrev pub file254 : Parts
file254 =
    text "TKF" ∷ byte 0x02 ∷ byte 0x00 ∷ byte 0x04 ∷ byte 0x02 ∷ zeros 9
    ∷ byte 0x01 ∷ byte 0x04 ∷ byte 0x00 ∷ byte 0x01 ∷ zeros 28 ∷ text "c" ∷ zeros 31 ∷ text "a" ∷ blanks 23 ∷ byte 0x01
    ∷ zeros 7 ∷ text "b" ∷ blanks 23 ∷ byte 0x01 ∷ zeros 7 ∷ text "ca" ∷ blanks 22 ∷ byte 0x02 ∷ zeros 7 ∷ text "cb"
    ∷ blanks 22 ∷ byte 0x01 ∷ zeros 7
    ∷ byte 0x01 ∷ byte 0x01 ∷ byte 0x01 ∷ zeros 5 ∷ text "c" ∷ zeros 55 ∷ text "d" ∷ blanks 23 ∷ byte 0x01 ∷ zeros 103
    ∷ []

abbrev pub file255 : Parts
file255 =
    text "TKF" ∷ byte 0x01 ∷ byte 0x00 ∷ byte 0x04 ∷ byte 0x02 ∷ zeros 9
    ∷ byte 0x01 ∷ byte 0x04 ∷ zeros 62 ∷ text "a" ∷ blanks 23 ∷ byte 0x01 ∷ zeros 7 ∷ text "b" ∷ blanks 23 ∷ byte 0x01
    ∷ zeros 7 ∷ text "cb" ∷ blanks 22 ∷ byte 0x01 ∷ zeros 7 ∷ text "d" ∷ blanks 23 ∷ byte 0x01 ∷ zeros 7
    ∷ zeros 192 ∷ []

abbrev pub file256 : Parts
file256 =
    text "TKF" ∷ byte 0x01 ∷ byte 0x00 ∷ byte 0x04 ∷ byte 0x02 ∷ zeros 9
    ∷ byte 0x01 ∷ byte 0x04 ∷ byte 0x00 ∷ byte 0x01 ∷ zeros 28 ∷ text "c" ∷ zeros 31 ∷ text "a" ∷ blanks 23 ∷ byte 0x01
    ∷ zeros 7 ∷ text "b" ∷ blanks 23 ∷ byte 0x01 ∷ zeros 7 ∷ text "ca" ∷ blanks 22 ∷ byte 0x02 ∷ zeros 7 ∷ text "cb"
    ∷ blanks 22 ∷ byte 0x01 ∷ zeros 7
    ∷ byte 0x01 ∷ byte 0x01 ∷ byte 0x01 ∷ zeros 5 ∷ text "c" ∷ zeros 55 ∷ text "d" ∷ blanks 23 ∷ byte 0x01 ∷ zeros 103
    ∷ []

abbrev pub file257 : Parts
file257 =
    text "TKF" ∷ byte 0x01 ∷ byte 0x00 ∷ byte 0x04 ∷ byte 0x04 ∷ zeros 9
    ∷ byte 0x01 ∷ byte 0x03 ∷ byte 0x00 ∷ byte 0x02 ∷ zeros 28 ∷ text "i" ∷ byte 0x20 ∷ zeros 30 ∷ text "a" ∷ blanks 23
    ∷ byte 0x05 ∷ zeros 7 ∷ text "and" ∷ blanks 21 ∷ byte 0x03 ∷ zeros 7 ∷ text "i" ∷ blanks 23 ∷ byte 0x09 ∷ zeros 39
    ∷ byte 0x01 ∷ byte 0x03 ∷ byte 0x01 ∷ zeros 5 ∷ text "o" ∷ zeros 55 ∷ text "that" ∷ blanks 20 ∷ byte 0x07 ∷ zeros 7
    ∷ text "the" ∷ blanks 21 ∷ byte 0x01 ∷ zeros 7 ∷ text "to" ∷ blanks 22 ∷ byte 0x04 ∷ zeros 39
    ∷ byte 0x01 ∷ byte 0x01 ∷ byte 0x01 ∷ byte 0x01 ∷ zeros 4 ∷ text "i" ∷ zeros 23 ∷ text "o" ∷ zeros 31 ∷ text "of"
    ∷ blanks 22 ∷ byte 0x02 ∷ zeros 103
    ∷ byte 0x01 ∷ byte 0x02 ∷ byte 0x02 ∷ byte 0x01 ∷ zeros 4 ∷ text "i" ∷ byte 0x20 ∷ zeros 22 ∷ text "i" ∷ zeros 31
    ∷ text "in" ∷ blanks 22 ∷ byte 0x06 ∷ zeros 7 ∷ text "is" ∷ blanks 22 ∷ byte 0x08 ∷ zeros 71 ∷ []

abbrev pub file258 : Parts
file258 =
    text "TKF" ∷ byte 0x01 ∷ byte 0x00 ∷ byte 0x04 ∷ byte 0x04 ∷ zeros 9
    ∷ byte 0x01 ∷ byte 0x03 ∷ byte 0x00 ∷ byte 0x02 ∷ zeros 28 ∷ text "i" ∷ byte 0x20 ∷ zeros 30 ∷ text "a" ∷ blanks 23
    ∷ byte 0x05 ∷ zeros 7 ∷ text "and" ∷ blanks 21 ∷ byte 0x03 ∷ zeros 7 ∷ text "i" ∷ blanks 23 ∷ byte 0x09 ∷ zeros 39
    ∷ byte 0x01 ∷ byte 0x03 ∷ byte 0x01 ∷ zeros 5 ∷ text "o" ∷ zeros 55 ∷ text "that" ∷ blanks 20 ∷ byte 0x07 ∷ zeros 7
    ∷ text "the" ∷ blanks 21 ∷ byte 0x01 ∷ zeros 7 ∷ text "to" ∷ blanks 22 ∷ byte 0x04 ∷ zeros 39
    ∷ byte 0x01 ∷ byte 0x01 ∷ byte 0x01 ∷ byte 0x01 ∷ zeros 4 ∷ text "i" ∷ zeros 23 ∷ text "o" ∷ zeros 31 ∷ text "of"
    ∷ blanks 22 ∷ byte 0x02 ∷ zeros 103
    ∷ byte 0x01 ∷ byte 0x02 ∷ byte 0x02 ∷ byte 0x01 ∷ zeros 4 ∷ text "i" ∷ byte 0x20 ∷ zeros 22 ∷ text "o" ∷ zeros 31
    ∷ text "in" ∷ blanks 22 ∷ byte 0x06 ∷ zeros 7 ∷ text "of" ∷ blanks 22 ∷ byte 0x02 ∷ zeros 71 ∷ []

abbrev pub file259 : Parts
file259 =
    text "TKF" ∷ byte 0x01 ∷ byte 0x00 ∷ byte 0x04 ∷ byte 0x04 ∷ zeros 9
    ∷ byte 0x01 ∷ byte 0x03 ∷ byte 0x00 ∷ byte 0x02 ∷ zeros 28 ∷ text "i" ∷ byte 0x20 ∷ zeros 30 ∷ text "a" ∷ blanks 23
    ∷ byte 0x05 ∷ zeros 7 ∷ text "and" ∷ blanks 21 ∷ byte 0x03 ∷ zeros 7 ∷ text "i" ∷ blanks 23 ∷ byte 0x09 ∷ zeros 39
    ∷ byte 0x01 ∷ byte 0x03 ∷ byte 0x01 ∷ zeros 5 ∷ text "o" ∷ zeros 55 ∷ text "that" ∷ blanks 20 ∷ byte 0x07 ∷ zeros 7
    ∷ text "the" ∷ blanks 21 ∷ byte 0x01 ∷ zeros 7 ∷ text "to" ∷ blanks 22 ∷ byte 0x04 ∷ zeros 39
    ∷ zeros 192
    ∷ byte 0x01 ∷ byte 0x02 ∷ byte 0x02 ∷ byte 0x01 ∷ zeros 4 ∷ text "i" ∷ byte 0x20 ∷ zeros 22 ∷ text "o" ∷ zeros 31
    ∷ text "in" ∷ blanks 22 ∷ byte 0x06 ∷ zeros 7 ∷ text "of" ∷ blanks 22 ∷ byte 0x02 ∷ zeros 71 ∷ []

abbrev pub file260 : Parts
file260 =
    text "TKF" ∷ byte 0x01 ∷ byte 0x00 ∷ byte 0x04 ∷ byte 0x04 ∷ zeros 9
    ∷ byte 0x01 ∷ byte 0x03 ∷ byte 0x00 ∷ byte 0x02 ∷ zeros 28 ∷ text "i" ∷ byte 0x20 ∷ zeros 30 ∷ text "a" ∷ blanks 23
    ∷ byte 0x05 ∷ zeros 7 ∷ text "and" ∷ blanks 21 ∷ byte 0x03 ∷ zeros 7 ∷ text "i" ∷ blanks 23 ∷ byte 0x09 ∷ zeros 39
    ∷ byte 0x01 ∷ byte 0x03 ∷ byte 0x01 ∷ zeros 5 ∷ text "o" ∷ zeros 55 ∷ text "that" ∷ blanks 20 ∷ byte 0x07 ∷ zeros 7
    ∷ text "the" ∷ blanks 21 ∷ byte 0x01 ∷ zeros 7 ∷ text "to" ∷ blanks 22 ∷ byte 0x04 ∷ zeros 39
    ∷ zeros 192
    ∷ byte 0x01 ∷ byte 0x00 ∷ byte 0x02 ∷ byte 0x01 ∷ zeros 4 ∷ text "i" ∷ byte 0x20 ∷ zeros 22 ∷ text "o" ∷ zeros 159
    ∷ []

abbrev pub file261 : Parts
file261 =
    text "TKF" ∷ byte 0x01 ∷ byte 0x00 ∷ byte 0x04 ∷ byte 0x04 ∷ zeros 9
    ∷ byte 0x01 ∷ byte 0x02 ∷ byte 0x00 ∷ byte 0x01 ∷ zeros 28 ∷ text "o" ∷ zeros 31 ∷ text "and" ∷ blanks 21
    ∷ byte 0x03 ∷ zeros 7 ∷ text "i" ∷ blanks 23 ∷ byte 0x09 ∷ zeros 71
    ∷ byte 0x01 ∷ byte 0x03 ∷ byte 0x01 ∷ zeros 5 ∷ text "o" ∷ zeros 55 ∷ text "that" ∷ blanks 20 ∷ byte 0x07 ∷ zeros 7
    ∷ text "the" ∷ blanks 21 ∷ byte 0x01 ∷ zeros 7 ∷ text "to" ∷ blanks 22 ∷ byte 0x04 ∷ zeros 39
    ∷ zeros 192
    ∷ byte 0x01 ∷ byte 0x00 ∷ byte 0x02 ∷ byte 0x01 ∷ zeros 4 ∷ text "i" ∷ byte 0x20 ∷ zeros 22 ∷ text "o" ∷ zeros 159
    ∷ []

abbrev pub file262 : Parts
file262 =
    text "TKF" ∷ byte 0x01 ∷ byte 0x00 ∷ byte 0x04 ∷ byte 0x04 ∷ zeros 9
    ∷ byte 0x01 ∷ byte 0x02 ∷ byte 0x00 ∷ byte 0x01 ∷ zeros 28 ∷ text "o" ∷ zeros 31 ∷ text "and" ∷ blanks 21
    ∷ byte 0x03 ∷ zeros 7 ∷ text "i" ∷ blanks 23 ∷ byte 0x09 ∷ zeros 71
    ∷ byte 0x01 ∷ byte 0x03 ∷ byte 0x01 ∷ zeros 5 ∷ text "o" ∷ zeros 55 ∷ text "that" ∷ blanks 20 ∷ byte 0x07 ∷ zeros 7
    ∷ text "the" ∷ blanks 21 ∷ byte 0x01 ∷ zeros 7 ∷ text "to" ∷ blanks 22 ∷ byte 0x04 ∷ zeros 39
    ∷ zeros 192
    ∷ zeros 192 ∷ []

abbrev pub file263 : Parts
file263 =
    text "TKF" ∷ byte 0x01 ∷ byte 0x00 ∷ byte 0x04 ∷ byte 0x04 ∷ zeros 9
    ∷ byte 0x01 ∷ byte 0x01 ∷ byte 0x00 ∷ byte 0x01 ∷ zeros 28 ∷ text "o" ∷ zeros 31 ∷ text "i" ∷ blanks 23 ∷ byte 0x09
    ∷ zeros 103
    ∷ byte 0x01 ∷ byte 0x02 ∷ byte 0x01 ∷ zeros 5 ∷ text "o" ∷ zeros 55 ∷ text "the" ∷ blanks 21 ∷ byte 0x01 ∷ zeros 7
    ∷ text "to" ∷ blanks 22 ∷ byte 0x04 ∷ zeros 71
    ∷ zeros 192
    ∷ zeros 192 ∷ []

abbrev pub file264 : Parts
file264 =
    text "TKF" ∷ byte 0x01 ∷ byte 0x00 ∷ byte 0x04 ∷ byte 0x04 ∷ zeros 9
    ∷ byte 0x01 ∷ byte 0x02 ∷ zeros 62 ∷ text "i" ∷ blanks 23 ∷ byte 0x09 ∷ zeros 7 ∷ text "to" ∷ blanks 22 ∷ byte 0x04
    ∷ zeros 71
    ∷ byte 0x01 ∷ byte 0x02 ∷ byte 0x01 ∷ zeros 5 ∷ text "o" ∷ zeros 55 ∷ text "the" ∷ blanks 21 ∷ byte 0x01 ∷ zeros 7
    ∷ text "to" ∷ blanks 22 ∷ byte 0x04 ∷ zeros 71
    ∷ zeros 192
    ∷ zeros 192 ∷ []

abbrev pub file265 : Parts
file265 =
    text "TKF" ∷ byte 0x01 ∷ byte 0x00 ∷ byte 0x04 ∷ byte 0x04 ∷ zeros 9
    ∷ byte 0x01 ∷ byte 0x02 ∷ zeros 62 ∷ text "i" ∷ blanks 23 ∷ byte 0x09 ∷ zeros 7 ∷ text "to" ∷ blanks 22 ∷ byte 0x04
    ∷ zeros 71
    ∷ zeros 192
    ∷ zeros 192
    ∷ zeros 192 ∷ []

abbrev pub file266 : Parts
file266 =
    zeros 16
    ∷ zeros 1536 ∷ []

abbrev pub file267 : Parts
file267 =
    text "TKF" ∷ byte 0x01 ∷ byte 0x00 ∷ byte 0x04 ∷ byte 0x08 ∷ zeros 9
    ∷ byte 0x01 ∷ byte 0x03 ∷ byte 0x00 ∷ byte 0x02 ∷ zeros 28 ∷ text "i" ∷ byte 0x20 ∷ zeros 30 ∷ text "a" ∷ blanks 23
    ∷ byte 0x05 ∷ zeros 7 ∷ text "and" ∷ blanks 21 ∷ byte 0x03 ∷ zeros 7 ∷ text "i" ∷ blanks 23 ∷ byte 0x09 ∷ zeros 39
    ∷ byte 0x01 ∷ byte 0x03 ∷ byte 0x01 ∷ zeros 5 ∷ text "o" ∷ zeros 55 ∷ text "that" ∷ blanks 20 ∷ byte 0x07 ∷ zeros 7
    ∷ text "the" ∷ blanks 21 ∷ byte 0x01 ∷ zeros 7 ∷ text "to" ∷ blanks 22 ∷ byte 0x04 ∷ zeros 39
    ∷ byte 0x01 ∷ byte 0x01 ∷ byte 0x01 ∷ byte 0x01 ∷ zeros 4 ∷ text "i" ∷ zeros 23 ∷ text "o" ∷ zeros 31 ∷ text "of"
    ∷ blanks 22 ∷ byte 0x02 ∷ zeros 103
    ∷ byte 0x01 ∷ byte 0x02 ∷ byte 0x02 ∷ byte 0x01 ∷ zeros 4 ∷ text "i" ∷ byte 0x20 ∷ zeros 22 ∷ text "i" ∷ zeros 31
    ∷ text "in" ∷ blanks 22 ∷ byte 0x06 ∷ zeros 7 ∷ text "is" ∷ blanks 22 ∷ byte 0x08 ∷ zeros 71
    ∷ zeros 192
    ∷ zeros 192
    ∷ zeros 192
    ∷ zeros 192 ∷ []

abbrev pub file268 : Parts
file268 =
    zeros 16
    ∷ zeros 3072 ∷ []

abbrev pub file269 : Parts
file269 =
    text "TKF" ∷ byte 0x01 ∷ byte 0x00 ∷ byte 0x04 ∷ byte 0x10 ∷ zeros 9
    ∷ byte 0x01 ∷ byte 0x03 ∷ byte 0x00 ∷ byte 0x02 ∷ zeros 28 ∷ text "ar" ∷ zeros 30 ∷ text "a" ∷ blanks 23 ∷ byte 0x05
    ∷ zeros 7 ∷ text "and" ∷ blanks 21 ∷ byte 0x03 ∷ zeros 7 ∷ text "are" ∷ blanks 21 ∷ byte 0x18 ∷ zeros 39
    ∷ byte 0x01 ∷ byte 0x04 ∷ byte 0x01 ∷ byte 0x01 ∷ zeros 4 ∷ text "o" ∷ zeros 23 ∷ text "t" ∷ zeros 31 ∷ text "that"
    ∷ blanks 20 ∷ byte 0x07 ∷ zeros 7 ∷ text "the" ∷ blanks 21 ∷ byte 0x01 ∷ zeros 7 ∷ text "this" ∷ blanks 20
    ∷ byte 0x1F ∷ zeros 7 ∷ text "to" ∷ blanks 22 ∷ byte 0x04 ∷ zeros 7
    ∷ byte 0x01 ∷ byte 0x04 ∷ byte 0x01 ∷ byte 0x01 ∷ zeros 4 ∷ text "i" ∷ zeros 23 ∷ text "o" ∷ zeros 31 ∷ text "not"
    ∷ blanks 21 ∷ byte 0x12 ∷ zeros 7 ∷ text "of" ∷ blanks 22 ∷ byte 0x02 ∷ zeros 7 ∷ text "on" ∷ blanks 22 ∷ byte 0x19
    ∷ zeros 7 ∷ text "or" ∷ blanks 22 ∷ byte 0x1A ∷ zeros 7
    ∷ byte 0x01 ∷ byte 0x03 ∷ byte 0x02 ∷ byte 0x01 ∷ zeros 4 ∷ text "i" ∷ byte 0x20 ∷ zeros 22 ∷ text "i" ∷ zeros 31
    ∷ text "in" ∷ blanks 22 ∷ byte 0x06 ∷ zeros 7 ∷ text "is" ∷ blanks 22 ∷ byte 0x08 ∷ zeros 7 ∷ text "it" ∷ blanks 22
    ∷ byte 0x0A ∷ zeros 39
    ∷ byte 0x01 ∷ byte 0x03 ∷ byte 0x01 ∷ byte 0x01 ∷ zeros 4 ∷ text "a" ∷ zeros 23 ∷ text "b" ∷ zeros 31 ∷ text "be"
    ∷ blanks 22 ∷ byte 0x11 ∷ zeros 7 ∷ text "but" ∷ blanks 21 ∷ byte 0x14 ∷ zeros 7 ∷ text "by" ∷ blanks 22 ∷ byte 0x13
    ∷ zeros 39
    ∷ byte 0x01 ∷ byte 0x04 ∷ byte 0x01 ∷ zeros 5 ∷ text "t" ∷ zeros 55 ∷ text "was" ∷ blanks 21 ∷ byte 0x0E ∷ zeros 7
    ∷ text "which" ∷ blanks 19 ∷ byte 0x17 ∷ zeros 7 ∷ text "with" ∷ blanks 20 ∷ byte 0x0D ∷ zeros 7 ∷ text "you"
    ∷ blanks 21 ∷ byte 0x16 ∷ zeros 7
    ∷ byte 0x01 ∷ byte 0x01 ∷ byte 0x01 ∷ byte 0x02 ∷ zeros 4 ∷ text "h" ∷ zeros 23 ∷ text "i" ∷ byte 0x20 ∷ zeros 30
    ∷ text "i" ∷ blanks 23 ∷ byte 0x09 ∷ zeros 103
    ∷ byte 0x01 ∷ byte 0x04 ∷ byte 0x01 ∷ byte 0x02 ∷ zeros 4 ∷ text "f" ∷ zeros 23 ∷ text "he" ∷ zeros 30 ∷ text "had"
    ∷ blanks 21 ∷ byte 0x1C ∷ zeros 7 ∷ text "have" ∷ blanks 20 ∷ byte 0x15 ∷ zeros 7 ∷ text "he" ∷ blanks 22
    ∷ byte 0x10 ∷ zeros 7 ∷ text "her" ∷ blanks 21 ∷ byte 0x1B ∷ zeros 7
    ∷ byte 0x01 ∷ byte 0x01 ∷ byte 0x02 ∷ byte 0x01 ∷ zeros 4 ∷ text "he" ∷ zeros 22 ∷ text "h" ∷ zeros 31 ∷ text "his"
    ∷ blanks 21 ∷ byte 0x0F ∷ zeros 103
    ∷ byte 0x01 ∷ byte 0x02 ∷ byte 0x02 ∷ byte 0x01 ∷ zeros 4 ∷ text "ar" ∷ zeros 22 ∷ text "a" ∷ zeros 31 ∷ text "as"
    ∷ blanks 22 ∷ byte 0x0C ∷ zeros 7 ∷ text "at" ∷ blanks 22 ∷ byte 0x1D ∷ zeros 71
    ∷ byte 0x01 ∷ byte 0x02 ∷ byte 0x01 ∷ byte 0x01 ∷ zeros 4 ∷ text "b" ∷ zeros 23 ∷ text "f" ∷ zeros 31 ∷ text "for"
    ∷ blanks 21 ∷ byte 0x0B ∷ zeros 7 ∷ text "from" ∷ blanks 20 ∷ byte 0x1E ∷ zeros 71
    ∷ zeros 192
    ∷ zeros 192
    ∷ zeros 192
    ∷ zeros 192
    ∷ zeros 192 ∷ []

abbrev pub file270 : Parts
file270 =
    text "TKF" ∷ byte 0x01 ∷ byte 0x00 ∷ byte 0x02 ∷ byte 0x0D ∷ zeros 9
    ∷ byte 0x01 ∷ byte 0x01 ∷ byte 0x17 ∷ zeros 5 ∷ text "p}}!}!!}" ∷ byte 0x20 ∷ text "!!" ∷ byte 0x20 ∷ text "a!}!aa}"
    ∷ byte 0x20 ∷ text "!aa" ∷ zeros 33 ∷ text "}W" ∷ blanks 22 ∷ byte 0xD4 ∷ text "9Y" ∷ byte 0xED ∷ byte 0xCD
    ∷ text "<" ∷ byte 0x7F ∷ text "1" ∷ zeros 32
    ∷ byte 0x01 ∷ byte 0x01 ∷ byte 0x16 ∷ byte 0x18 ∷ zeros 4 ∷ text "h" ∷ blanks 3 ∷ text "}a}aa" ∷ blanks 2
    ∷ text "a}!!}}" ∷ blanks 3 ∷ text "!}" ∷ zeros 2 ∷ text "m!!}}" ∷ blanks 2 ∷ text "!!" ∷ byte 0x20 ∷ text "}a!!aa!a"
    ∷ byte 0x20 ∷ text "}" ∷ byte 0x20 ∷ text "aa" ∷ byte 0x20 ∷ zeros 8 ∷ text "m!" ∷ byte 0x20 ∷ text "o" ∷ blanks 20
    ∷ byte 0x18 ∷ byte 0xF7 ∷ byte 0x7F ∷ text "&K" ∷ byte 0xCA ∷ byte 0xDF ∷ text "d" ∷ zeros 32
    ∷ byte 0x01 ∷ byte 0x02 ∷ byte 0x18 ∷ byte 0x16 ∷ zeros 4 ∷ text "g" ∷ blanks 2 ∷ text "!}!aa!}!!a}a}a}" ∷ blanks 2
    ∷ text "}" ∷ blanks 2 ∷ text "}h" ∷ blanks 3 ∷ text "}a}aa" ∷ blanks 2 ∷ text "a}!!}}" ∷ blanks 3 ∷ text "!}"
    ∷ zeros 10 ∷ text "h" ∷ blanks 3 ∷ text "}a}aa" ∷ blanks 2 ∷ text "a}!!}}" ∷ blanks 3 ∷ text "!}#" ∷ byte 0x20
    ∷ byte 0x1B ∷ byte 0xAD ∷ byte 0xC7 ∷ byte 0xE6 ∷ byte 0x06 ∷ text "z" ∷ byte 0x5C ∷ byte 0x9A ∷ text "h" ∷ blanks 3
    ∷ text "}a}aa" ∷ blanks 2 ∷ text "a}!!}}" ∷ blanks 3 ∷ text "!}C" ∷ byte 0x20 ∷ byte 0xC6 ∷ byte 0xF5 ∷ byte 0x99
    ∷ text "?" ∷ byte 0x80 ∷ byte 0x09 ∷ text "$1"
    ∷ byte 0x01 ∷ byte 0x02 ∷ byte 0x00 ∷ byte 0x17 ∷ zeros 28 ∷ text "(!}" ∷ blanks 2 ∷ text "!aaa}}!" ∷ byte 0x20
    ∷ text "a!a}a" ∷ byte 0x20 ∷ text "!a}a" ∷ zeros 9 ∷ text "(!g" ∷ blanks 21 ∷ text "Y" ∷ byte 0xA9 ∷ text "3"
    ∷ byte 0xB4 ∷ text "B" ∷ byte 0x99 ∷ text "g" ∷ byte 0x8B ∷ text "(!}" ∷ blanks 2 ∷ text "!aaa}}!" ∷ byte 0x20
    ∷ text "a!a}a" ∷ byte 0x20 ∷ text "!a}a" ∷ byte 0x20 ∷ text "G" ∷ byte 0xFC ∷ byte 0xC9 ∷ byte 0xBB ∷ text "[t"
    ∷ byte 0xF2 ∷ text "$"
    ∷ byte 0x01 ∷ byte 0x01 ∷ byte 0x17 ∷ byte 0x18 ∷ zeros 4 ∷ text "(!}" ∷ blanks 2 ∷ text "!aaa}}!" ∷ byte 0x20
    ∷ text "a!a}a" ∷ byte 0x20 ∷ text "!a}a" ∷ byte 0x00 ∷ text "4" ∷ byte 0x20 ∷ text "!" ∷ byte 0x20 ∷ text "a}"
    ∷ byte 0x20 ∷ text "}" ∷ byte 0x20 ∷ text "!" ∷ byte 0x20 ∷ text "}!}" ∷ byte 0x20 ∷ text "a}!" ∷ byte 0x20
    ∷ text "!!a!" ∷ byte 0x20 ∷ zeros 8 ∷ text "4" ∷ byte 0x20 ∷ text "!" ∷ byte 0x20 ∷ text "a}" ∷ byte 0x20 ∷ text "}"
    ∷ byte 0x20 ∷ text "!" ∷ byte 0x20 ∷ text "}!}" ∷ byte 0x20 ∷ text "a}!" ∷ byte 0x20 ∷ text "!!a!" ∷ byte 0x20
    ∷ text "[" ∷ byte 0xB0 ∷ text "f" ∷ byte 0x1F ∷ text "z" ∷ byte 0xA0 ∷ byte 0x07 ∷ text "E" ∷ zeros 32
    ∷ byte 0x01 ∷ byte 0x02 ∷ byte 0x18 ∷ byte 0x17 ∷ zeros 4 ∷ text "m!!}}" ∷ blanks 2 ∷ text "!!" ∷ byte 0x20
    ∷ text "}a!!aa!a" ∷ byte 0x20 ∷ text "}" ∷ byte 0x20 ∷ text "aa" ∷ byte 0x20 ∷ text "p}}!}!!}" ∷ byte 0x20
    ∷ text "!!" ∷ byte 0x20 ∷ text "a!}!aa}" ∷ byte 0x20 ∷ text "!aa" ∷ zeros 9 ∷ text "p!" ∷ blanks 22 ∷ byte 0x95
    ∷ text "c" ∷ byte 0xE3 ∷ byte 0xDF ∷ text "z" ∷ byte 0xD0 ∷ byte 0xB4 ∷ byte 0x91 ∷ text "p}}!}!!}" ∷ byte 0x20
    ∷ text "!!" ∷ byte 0x20 ∷ text "a!}!aa}" ∷ byte 0x20 ∷ text "!aaV" ∷ byte 0x00 ∷ text "a" ∷ byte 0xB8 ∷ byte 0x9D
    ∷ byte 0x00 ∷ byte 0x0D ∷ text "$" ∷ byte 0x02
    ∷ byte 0x01 ∷ byte 0x01 ∷ byte 0x16 ∷ byte 0x18 ∷ zeros 4 ∷ text "8a" ∷ byte 0x20 ∷ text "a!" ∷ blanks 2 ∷ text "!a"
    ∷ byte 0x20 ∷ text "a" ∷ byte 0x20 ∷ text "a" ∷ byte 0x20 ∷ text "aaa" ∷ byte 0x20 ∷ text "aa}" ∷ byte 0x20
    ∷ zeros 2 ∷ text "9" ∷ blanks 2 ∷ text "!aaa!a" ∷ blanks 2 ∷ text "a!}!}!" ∷ byte 0x20 ∷ text "aaaa!}" ∷ zeros 8
    ∷ text "8a" ∷ byte 0x20 ∷ text "a!" ∷ blanks 2 ∷ text "!a" ∷ byte 0x20 ∷ text "a" ∷ byte 0x20 ∷ text "a" ∷ byte 0x20
    ∷ text "aaa" ∷ byte 0x20 ∷ text "aa}" ∷ byte 0x22 ∷ blanks 2 ∷ byte 0xFF ∷ byte 0xFF ∷ byte 0xFF ∷ byte 0xFF
    ∷ byte 0xFF ∷ byte 0xFF ∷ byte 0xFF ∷ byte 0xFF ∷ zeros 32
    ∷ byte 0x01 ∷ byte 0x02 ∷ byte 0x18 ∷ byte 0x16 ∷ zeros 4 ∷ text "9" ∷ blanks 2 ∷ text "!aaa!a" ∷ blanks 2
    ∷ text "a!}!}!" ∷ byte 0x20 ∷ text "aaaa!}I" ∷ byte 0x20 ∷ text "!}!}a" ∷ byte 0x20 ∷ text "a" ∷ byte 0x20
    ∷ text "}" ∷ blanks 4 ∷ text "!a}" ∷ byte 0x20 ∷ text "}!" ∷ byte 0x20 ∷ zeros 10 ∷ text ";a" ∷ blanks 22 ∷ zeros 8
    ∷ text "I" ∷ byte 0x20 ∷ text "!}!}a" ∷ byte 0x20 ∷ text "a" ∷ byte 0x20 ∷ text "}" ∷ blanks 4 ∷ text "!a}"
    ∷ byte 0x20 ∷ text "}!" ∷ byte 0x20 ∷ text "!" ∷ byte 0x20 ∷ byte 0xE9 ∷ byte 0x87 ∷ byte 0xD1 ∷ text "#"
    ∷ byte 0x8A ∷ byte 0xA4 ∷ text "l" ∷ byte 0xBB
    ∷ byte 0x01 ∷ byte 0x02 ∷ byte 0x18 ∷ byte 0x18 ∷ zeros 4 ∷ text "^a}}" ∷ blanks 2 ∷ text "!}a}" ∷ byte 0x20
    ∷ text "a" ∷ byte 0x20 ∷ text "}" ∷ byte 0x20 ∷ text "!" ∷ byte 0x20 ∷ text "aa!}a!" ∷ byte 0x20 ∷ text "g"
    ∷ blanks 2 ∷ text "!}!aa!}!!a}a}a}" ∷ blanks 2 ∷ text "}" ∷ blanks 2 ∷ text "}" ∷ zeros 8 ∷ text "g" ∷ blanks 2
    ∷ text "!}!aa!}!!a}a}a}" ∷ blanks 2 ∷ text "}" ∷ blanks 2 ∷ text "j" ∷ byte 0x15 ∷ text "<*" ∷ byte 0xD7 ∷ byte 0xAD
    ∷ byte 0xDE ∷ byte 0xF7 ∷ byte 0x10 ∷ text "g" ∷ blanks 2 ∷ text "!}!aa!}!!a}a}a}" ∷ blanks 2 ∷ text "}" ∷ blanks 2
    ∷ text "}" ∷ zeros 8
    ∷ byte 0x01 ∷ byte 0x02 ∷ byte 0x18 ∷ byte 0x18 ∷ zeros 4 ∷ text "[}!aa}" ∷ byte 0x20 ∷ text "!}}}}a" ∷ byte 0x20
    ∷ text "}!!!a}" ∷ byte 0x20 ∷ text "}}!^a}}" ∷ blanks 2 ∷ text "!}a}" ∷ byte 0x20 ∷ text "a" ∷ byte 0x20 ∷ text "}"
    ∷ byte 0x20 ∷ text "!" ∷ byte 0x20 ∷ text "aa!}a!" ∷ byte 0x20 ∷ zeros 8 ∷ text "[}!aa}" ∷ byte 0x20 ∷ text "!}}}}a"
    ∷ byte 0x20 ∷ text "}!!!a}" ∷ byte 0x20 ∷ text "}}*" ∷ byte 0xD2 ∷ text "v5L" ∷ byte 0x04 ∷ byte 0xEF ∷ byte 0x09
    ∷ text "G^!Y" ∷ blanks 21 ∷ text "8" ∷ byte 0xB4 ∷ byte 0xA1 ∷ byte 0x87 ∷ text "U" ∷ byte 0xA8 ∷ text "bx"
    ∷ byte 0x01 ∷ byte 0x02 ∷ byte 0x16 ∷ byte 0x18 ∷ zeros 4 ∷ text "I" ∷ byte 0x20 ∷ text "!}!}a" ∷ byte 0x20
    ∷ text "a" ∷ byte 0x20 ∷ text "}" ∷ blanks 4 ∷ text "!a}" ∷ byte 0x20 ∷ text "}!" ∷ byte 0x20 ∷ zeros 2
    ∷ text "[}!aa}" ∷ byte 0x20 ∷ text "!}}}}a" ∷ byte 0x20 ∷ text "}!!!a}" ∷ byte 0x20 ∷ text "}}!" ∷ zeros 8
    ∷ text "[!h" ∷ blanks 21 ∷ zeros 8 ∷ text "[}!aa}" ∷ byte 0x20 ∷ text "!}}}}a" ∷ byte 0x20 ∷ text "}!!!a}"
    ∷ byte 0x20 ∷ text "}}!" ∷ byte 0xFF ∷ byte 0xFF ∷ byte 0xFF ∷ byte 0xFF ∷ byte 0xFF ∷ byte 0xFF ∷ byte 0xFF
    ∷ byte 0xFF
    ∷ byte 0x01 ∷ byte 0x02 ∷ byte 0x18 ∷ byte 0x16 ∷ zeros 4 ∷ text "4" ∷ byte 0x20 ∷ text "!" ∷ byte 0x20 ∷ text "a}"
    ∷ byte 0x20 ∷ text "}" ∷ byte 0x20 ∷ text "!" ∷ byte 0x20 ∷ text "}!}" ∷ byte 0x20 ∷ text "a}!" ∷ byte 0x20
    ∷ text "!!a!" ∷ byte 0x20 ∷ text "8a" ∷ byte 0x20 ∷ text "a!" ∷ blanks 2 ∷ text "!a" ∷ byte 0x20 ∷ text "a"
    ∷ byte 0x20 ∷ text "a" ∷ byte 0x20 ∷ text "aaa" ∷ byte 0x20 ∷ text "aa}" ∷ byte 0x20 ∷ zeros 10 ∷ text "4"
    ∷ byte 0x20 ∷ text "!" ∷ byte 0x20 ∷ text "a}" ∷ byte 0x20 ∷ text "}" ∷ byte 0x20 ∷ text "!" ∷ byte 0x20
    ∷ text "}!}" ∷ byte 0x20 ∷ text "a}!" ∷ byte 0x20 ∷ text "!!a!?J" ∷ byte 0x5C ∷ byte 0xF9 ∷ byte 0x14 ∷ byte 0xC2
    ∷ byte 0xFE ∷ text "n_8a" ∷ byte 0x20 ∷ text "a!" ∷ blanks 2 ∷ text "!a" ∷ byte 0x20 ∷ text "a" ∷ byte 0x20
    ∷ text "a" ∷ byte 0x20 ∷ text "aaa" ∷ byte 0x20 ∷ text "aaq" ∷ blanks 3 ∷ byte 0xFF ∷ byte 0xFF ∷ byte 0xFF
    ∷ byte 0xFF ∷ byte 0xFF ∷ byte 0xFF ∷ byte 0xFF ∷ byte 0xFF
    ∷ zeros 128 ∷ []

abbrev pub file271 : Parts
file271 =
    text "TKF" ∷ byte 0x01 ∷ byte 0x00 ∷ byte 0x02 ∷ byte 0x0C ∷ zeros 9
    ∷ byte 0x01 ∷ byte 0x02 ∷ byte 0x18 ∷ byte 0x14 ∷ zeros 4 ∷ text "-!" ∷ byte 0x20 ∷ text "!}!" ∷ byte 0x20
    ∷ text "!!}!}" ∷ byte 0x20 ∷ text "aa}a!" ∷ byte 0x20 ∷ text "}!!a!4!!}!a" ∷ blanks 2 ∷ text "!}}" ∷ blanks 2
    ∷ text "}" ∷ byte 0x20 ∷ text "aa}!}" ∷ zeros 12 ∷ text "4!" ∷ blanks 22 ∷ byte 0xC6 ∷ byte 0x17 ∷ text "K"
    ∷ byte 0x85 ∷ byte 0xB9 ∷ text "W" ∷ byte 0x10 ∷ byte 0xFC ∷ text "4!!}!a" ∷ blanks 2 ∷ text "!}}" ∷ blanks 2
    ∷ text "}" ∷ byte 0x20 ∷ text "aa}!}" ∷ blanks 4 ∷ byte 0xEE ∷ byte 0xC7 ∷ byte 0x15 ∷ text "o#o" ∷ byte 0xE4
    ∷ byte 0x98
    ∷ byte 0x01 ∷ byte 0x01 ∷ byte 0x18 ∷ byte 0x18 ∷ zeros 4 ∷ text "S" ∷ byte 0x20 ∷ text "}a}" ∷ byte 0x20
    ∷ text "}!}a}" ∷ blanks 2 ∷ text "aa}}}!!" ∷ byte 0x20 ∷ text "!}aba!" ∷ byte 0x20 ∷ text "a}}!" ∷ byte 0x20
    ∷ text "}aa!" ∷ byte 0x20 ∷ text "a!aa" ∷ byte 0x20 ∷ text "!}" ∷ byte 0x20 ∷ text "!!" ∷ zeros 8 ∷ text "ba!"
    ∷ byte 0x20 ∷ text "a}}!" ∷ byte 0x20 ∷ text "}aa!" ∷ byte 0x20 ∷ text "a!aa" ∷ byte 0x20 ∷ text "!}" ∷ byte 0x20
    ∷ text "!!" ∷ byte 0xF6 ∷ byte 0xD5 ∷ byte 0xC8 ∷ byte 0x09 ∷ byte 0xF8 ∷ byte 0x04 ∷ byte 0xF6 ∷ text "V"
    ∷ zeros 32
    ∷ byte 0x01 ∷ byte 0x02 ∷ byte 0x18 ∷ zeros 5 ∷ text "s" ∷ byte 0x20 ∷ text "a}}" ∷ byte 0x20 ∷ text "a" ∷ blanks 2
    ∷ text "}!a}" ∷ blanks 2 ∷ text "!" ∷ byte 0x20 ∷ text "a" ∷ blanks 2 ∷ text "a!}" ∷ byte 0x20 ∷ zeros 32 ∷ text "s"
    ∷ byte 0x20 ∷ text "a}}" ∷ byte 0x20 ∷ text "a" ∷ blanks 2 ∷ text "}!a}" ∷ blanks 2 ∷ text "!" ∷ byte 0x20
    ∷ text "a" ∷ blanks 2 ∷ text "a!}$}" ∷ byte 0xE9 ∷ byte 0x81 ∷ byte 0x22 ∷ text "7" ∷ byte 0x13 ∷ byte 0x89
    ∷ byte 0x16 ∷ text "s" ∷ byte 0x20 ∷ text "a}}" ∷ byte 0x20 ∷ text "a" ∷ blanks 2 ∷ text "}!a}" ∷ blanks 2
    ∷ text "!" ∷ byte 0x20 ∷ text "a" ∷ blanks 2 ∷ text "a!}F" ∷ byte 0x9E ∷ text "W" ∷ byte 0x09 ∷ byte 0xF2 ∷ text "+"
    ∷ byte 0xFB ∷ byte 0xE5 ∷ byte 0x17
    ∷ byte 0x01 ∷ byte 0x02 ∷ byte 0x00 ∷ byte 0x17 ∷ zeros 28 ∷ text ")!!a}" ∷ blanks 3 ∷ text "}" ∷ byte 0x20
    ∷ text "!a}!!!aa!" ∷ blanks 2 ∷ text "a" ∷ byte 0x20 ∷ zeros 9 ∷ text ")!" ∷ blanks 22 ∷ byte 0xCF ∷ byte 0xA4
    ∷ byte 0x10 ∷ byte 0xC8 ∷ byte 0xA0 ∷ byte 0xE2 ∷ byte 0x14 ∷ byte 0xF0 ∷ text ")!!a}" ∷ blanks 3 ∷ text "}"
    ∷ byte 0x20 ∷ text "!a}!!!aa!" ∷ blanks 2 ∷ text "a" ∷ blanks 2 ∷ byte 0x8C ∷ byte 0xC8 ∷ byte 0x07 ∷ text "/%"
    ∷ byte 0x80 ∷ byte 0xD8 ∷ text "t"
    ∷ byte 0x01 ∷ byte 0x01 ∷ byte 0x18 ∷ byte 0x18 ∷ zeros 4 ∷ text "P" ∷ byte 0x20 ∷ text "}a" ∷ byte 0x20 ∷ text "!!"
    ∷ byte 0x20 ∷ text "!" ∷ blanks 3 ∷ text "!" ∷ blanks 2 ∷ text "a!}!}" ∷ byte 0x20 ∷ text "aa}S" ∷ byte 0x20
    ∷ text "}a}" ∷ byte 0x20 ∷ text "}!}a}" ∷ blanks 2 ∷ text "aa}}}!!" ∷ byte 0x20 ∷ text "!}a" ∷ zeros 8 ∷ text "S"
    ∷ byte 0x20 ∷ text "}a}" ∷ byte 0x20 ∷ text "}!}a}" ∷ blanks 2 ∷ text "aa}}}!!" ∷ byte 0x20 ∷ text "!}Y" ∷ byte 0xEB
    ∷ byte 0x8C ∷ text "V" ∷ byte 0xD3 ∷ byte 0xCC ∷ text ":[" ∷ byte 0xE3 ∷ zeros 32
    ∷ byte 0x01 ∷ byte 0x01 ∷ byte 0x14 ∷ byte 0x16 ∷ zeros 4 ∷ text "4!!}!a" ∷ blanks 2 ∷ text "!}}" ∷ blanks 2
    ∷ text "}" ∷ byte 0x20 ∷ text "aa}!}" ∷ zeros 4 ∷ text ":aa}a!a" ∷ byte 0x20 ∷ text "}!!}!a!a" ∷ byte 0x20
    ∷ text "a" ∷ byte 0x20 ∷ text "}}a" ∷ zeros 10 ∷ text ":aa}a!a" ∷ byte 0x20 ∷ text "}!!}!a!a" ∷ byte 0x20 ∷ text "a"
    ∷ byte 0x20 ∷ text "}}a/" ∷ byte 0x20 ∷ zeros 40
    ∷ byte 0x01 ∷ byte 0x02 ∷ byte 0x18 ∷ byte 0x18 ∷ zeros 4 ∷ text "ba!" ∷ byte 0x20 ∷ text "a}}!" ∷ byte 0x20
    ∷ text "}aa!" ∷ byte 0x20 ∷ text "a!aa" ∷ byte 0x20 ∷ text "!}" ∷ byte 0x20 ∷ text "!!s" ∷ byte 0x20 ∷ text "a}}"
    ∷ byte 0x20 ∷ text "a" ∷ blanks 2 ∷ text "}!a}" ∷ blanks 2 ∷ text "!" ∷ byte 0x20 ∷ text "a" ∷ blanks 2 ∷ text "a!}"
    ∷ byte 0x20 ∷ zeros 8 ∷ text "ba!" ∷ byte 0x20 ∷ text "a}}!" ∷ byte 0x20 ∷ text "}aa!" ∷ byte 0x20 ∷ text "a!aa"
    ∷ byte 0x20 ∷ text "!}" ∷ byte 0x20 ∷ text "!A" ∷ zeros 8 ∷ text "s" ∷ byte 0x20 ∷ text "a}}" ∷ byte 0x20 ∷ text "a"
    ∷ blanks 2 ∷ text "}!a}" ∷ blanks 2 ∷ text "!" ∷ byte 0x20 ∷ text "a" ∷ blanks 2 ∷ text "a!}" ∷ byte 0x20 ∷ zeros 8
    ∷ byte 0x01 ∷ byte 0x02 ∷ byte 0x17 ∷ byte 0x18 ∷ zeros 4 ∷ text ")!!a}" ∷ blanks 3 ∷ text "}" ∷ byte 0x20
    ∷ text "!a}!!!aa!" ∷ blanks 2 ∷ text "a" ∷ byte 0x20 ∷ byte 0x00 ∷ text "-!" ∷ byte 0x20 ∷ text "!}!" ∷ byte 0x20
    ∷ text "!!}!}" ∷ byte 0x20 ∷ text "aa}a!" ∷ byte 0x20 ∷ text "}!!a!" ∷ zeros 8 ∷ text ")!!a}" ∷ blanks 3 ∷ text "}"
    ∷ byte 0x20 ∷ text "!a}!!!aa!" ∷ blanks 2 ∷ text "aB" ∷ byte 0x20 ∷ byte 0x14 ∷ byte 0x9F ∷ text "X" ∷ byte 0xA7
    ∷ byte 0xBF ∷ byte 0x85 ∷ byte 0x1C ∷ byte 0xFA ∷ text "-!" ∷ byte 0x20 ∷ text "!}!" ∷ byte 0x20 ∷ text "!!}!}"
    ∷ byte 0x20 ∷ text "aa}a!" ∷ byte 0x20 ∷ text "}!!a!f!8xC" ∷ byte 0x82 ∷ text "HZ"
    ∷ byte 0x01 ∷ byte 0x02 ∷ byte 0x16 ∷ byte 0x18 ∷ zeros 4 ∷ text ":aa}a!a" ∷ byte 0x20 ∷ text "}!!}!a!a" ∷ byte 0x20
    ∷ text "a" ∷ byte 0x20 ∷ text "}}a" ∷ zeros 2 ∷ text ";a!!a" ∷ blanks 4 ∷ text "a}}" ∷ byte 0x20 ∷ text "a}!}}"
    ∷ blanks 2 ∷ text "a" ∷ byte 0x20 ∷ text "aa" ∷ zeros 8 ∷ text ";!v" ∷ blanks 21 ∷ zeros 8 ∷ text ";a!!a" ∷ blanks 4
    ∷ text "a}}" ∷ byte 0x20 ∷ text "a}!}}" ∷ blanks 2 ∷ text "a" ∷ byte 0x20 ∷ text "a&" ∷ byte 0xF2 ∷ text "|"
    ∷ byte 0x87 ∷ text "4" ∷ byte 0xB8 ∷ text "=" ∷ byte 0xDF ∷ text "U"
    ∷ byte 0x01 ∷ byte 0x02 ∷ byte 0x18 ∷ byte 0x18 ∷ zeros 4 ∷ text ";a!!a" ∷ blanks 4 ∷ text "a}}" ∷ byte 0x20
    ∷ text "a}!}}" ∷ blanks 2 ∷ text "a" ∷ byte 0x20 ∷ text "aaBaa!}}}" ∷ byte 0x20 ∷ text "aaa" ∷ byte 0x20
    ∷ text "}}}" ∷ byte 0x20 ∷ text "!" ∷ byte 0x20 ∷ text "}a" ∷ byte 0x20 ∷ text "}" ∷ blanks 2 ∷ zeros 8 ∷ text "B!"
    ∷ blanks 22 ∷ text "z" ∷ byte 0xB2 ∷ text "^" ∷ byte 0x18 ∷ text "/W@" ∷ byte 0x05 ∷ text "BI" ∷ blanks 22 ∷ zeros 8
    ∷ byte 0x01 ∷ byte 0x01 ∷ byte 0x18 ∷ byte 0x18 ∷ zeros 4 ∷ text "G!" ∷ byte 0x20 ∷ text "}" ∷ blanks 2
    ∷ text "}!}a!" ∷ byte 0x20 ∷ text "!a!}!" ∷ blanks 3 ∷ text "a}}aP" ∷ byte 0x20 ∷ text "}a" ∷ byte 0x20 ∷ text "!!"
    ∷ byte 0x20 ∷ text "!" ∷ blanks 3 ∷ text "!" ∷ blanks 2 ∷ text "a!}!}" ∷ byte 0x20 ∷ text "aa}" ∷ zeros 8 ∷ text "P"
    ∷ byte 0x20 ∷ text "}a" ∷ byte 0x20 ∷ text "!!" ∷ byte 0x20 ∷ text "!" ∷ blanks 3 ∷ text "!" ∷ blanks 2
    ∷ text "a!}!}" ∷ byte 0x20 ∷ text "aa}" ∷ byte 0x1F ∷ byte 0xBA ∷ text "a2" ∷ byte 0xFB ∷ byte 0x08 ∷ byte 0x82
    ∷ text "8" ∷ zeros 32
    ∷ byte 0x01 ∷ byte 0x02 ∷ byte 0x18 ∷ byte 0x18 ∷ zeros 4 ∷ text "Baa!}}}" ∷ byte 0x20 ∷ text "aaa" ∷ byte 0x20
    ∷ text "}}}" ∷ byte 0x20 ∷ text "!" ∷ byte 0x20 ∷ text "}a" ∷ byte 0x20 ∷ text "}" ∷ blanks 2 ∷ text "G!"
    ∷ byte 0x20 ∷ text "}" ∷ blanks 2 ∷ text "}!}a!" ∷ byte 0x20 ∷ text "!a!}!" ∷ blanks 3 ∷ text "a}}a" ∷ zeros 8
    ∷ text "Baa!}}}" ∷ byte 0x20 ∷ text "aaa" ∷ byte 0x20 ∷ text "}}}" ∷ byte 0x20 ∷ text "!" ∷ byte 0x20 ∷ text "}a"
    ∷ byte 0x20 ∷ text "}k" ∷ byte 0x20 ∷ byte 0xC5 ∷ text "Fz" ∷ byte 0x10 ∷ byte 0xDF ∷ byte 0xC4 ∷ text "WzG!"
    ∷ byte 0x20 ∷ text "}" ∷ blanks 2 ∷ text "}!}a!" ∷ byte 0x20 ∷ text "!a!}!" ∷ blanks 3 ∷ text "a}}a" ∷ byte 0x0A
    ∷ byte 0xDA ∷ text "%0" ∷ byte 0xFF ∷ text ".u)" ∷ []

abbrev pub trie0 : Trie
trie0 =
    trie 3 0 (cell 0x72 0 (further 1) (slot 1) ∷ cell 0x73 1 (further 2) (slot 1) ∷ cell 0x73 2 (slot 0) (slot 1) ∷ [])

abbrev pub trie1 : Trie
trie1 =
    trie 3 0 (cell 0x6F 0 (further 1) (slot 1) ∷ cell 0x6F 1 (further 2) (slot 1) ∷ cell 0x20 2 (slot 0) (slot 1) ∷ [])

abbrev pub trie2 : Trie
trie2 =
    trie 1 0 (cell 0x61 0 (slot 0) (slot 1) ∷ [])

abbrev pub trie3 : Trie
trie3 =
    trie 1 0 (cell 0x72 0 (slot 0) (slot 1) ∷ [])

abbrev pub trie4 : Trie
trie4 =
    trie 2 0 (cell 0x61 0 (further 257) (slot 1) ∷ cell 0x61 1 (further 1) (slot 1) ∷ [])

abbrev pub trie5 : Trie
trie5 =
    trie 209 0 (cell 0x69 2 (further 1) (slot 1) ∷ cell 0x69 1 (further 2) (slot 129) ∷ cell 0x20 2 (slot 0) (slot 1)
    ∷ [])

abbrev pub trie6 : Trie
trie6 =
    trie 3 0 (cell 0x7D 0 (slot 1) (slot 2) ∷ cell 0x20 1 (slot 0) (further 2) ∷ cell 0x61 1 (slot 1) (slot 2) ∷ [])

abbrev pub trie7 : Trie
trie7 =
    trie 3 0 (cell 0x6E 0 (slot 0) (further 1) ∷ cell 0x6F 0 (further 2) (slot 2) ∷ cell 0x69 1 (further 2) (slot 2)
    ∷ [])

abbrev pub trie8 : Trie
trie8 =
    trie 2 0 (cell 0x21 0 (slot 7) (slot 1) ∷ cell 0x20 1 (slot 0) (slot 1) ∷ [])

abbrev pub trie9 : Trie
trie9 =
    trie 6 0 (cell 0x6F 0 (further 1) (slot 1) ∷ cell 0x69 1 (further 2) (slot 1) ∷ cell 0x6E 2 (further 3) (slot 1)
    ∷ cell 0x43 3 (further 4) (slot 1) ∷ cell 0x69 4 (further 5) (slot 1) ∷ cell 0x6E 5 (slot 0) (slot 2) ∷ [])

abbrev pub trie10 : Trie
trie10 =
    trie 4 0 (cell 0x61 0 (further 2) (slot 1) ∷ cell 0x20 3 (slot 0) (slot 1) ∷ cell 0x62 1 (further 3) (slot 1)
    ∷ cell 0x62 2 (further 1) (slot 1) ∷ [])

abbrev pub trie11 : Trie
trie11 =
    trie 10 0 (cell 0x21 0 (further 8) (slot 1) ∷ cell 0x20 9 (slot 0) (slot 1) ∷ cell 0x7D 8 (further 1) (slot 1)
    ∷ cell 0x21 7 (further 2) (slot 1) ∷ cell 0x21 2 (further 5) (slot 1) ∷ cell 0x21 3 (further 7) (slot 1)
    ∷ cell 0x21 6 (further 3) (slot 1) ∷ cell 0x21 4 (further 9) (slot 1) ∷ cell 0x7D 1 (further 4) (slot 1)
    ∷ cell 0x7D 5 (further 6) (slot 1) ∷ [])

abbrev pub trie12 : Trie
trie12 =
    trie 4 0 (cell 0x7A 0 (further 3) (slot 1) ∷ cell 0x78 2 (further 2) (slot 1) ∷ cell 0x79 3 (slot 0) (slot 1)
    ∷ cell 0x78 1 (further 1) (slot 1) ∷ [])

abbrev pub trie13 : Trie
trie13 =
    trie 3 0 (cell 0x61 0 (further 1) (slot 1) ∷ cell 0x61 1 (further 2) (slot 1) ∷ cell 0x61 2 (slot 1) (slot 0) ∷ [])

abbrev pub trie14 : Trie
trie14 =
    trie 1 0 (cell 0x69 0 (further 1) (slot 2) ∷ cell 0x69 1 (slot 0) (further 2) ∷ cell 0x6E 1 (further 3) (slot 2)
    ∷ cell 0x20 2 (slot 1) (slot 2) ∷ [])

abbrev pub trie15 : Trie
trie15 =
    trie 0 0 ([])

abbrev pub trie16 : Trie
trie16 =
    trie 5 0 (cell 0x78 0 (further 1) (slot 1) ∷ cell 0x78 1 (further 2) (slot 1) ∷ cell 0x79 2 (further 3) (slot 1)
    ∷ cell 0x78 3 (further 4) (slot 1) ∷ cell 0x79 4 (slot 0) (slot 1) ∷ [])

abbrev pub trie17 : Trie
trie17 =
    trie 4 0 (cell 0x69 0 (further 1) (slot 1) ∷ cell 0x6F 1 (further 2) (slot 1) ∷ cell 0x6F 2 (further 3) (slot 1)
    ∷ cell 0x20 3 (slot 0) (slot 1) ∷ [])

abbrev pub trie18 : Trie
trie18 =
    trie 3 0 (cell 0x61 0 (further 1) (slot 1) ∷ cell 0x61 1 (further 2) (slot 1) ∷ cell 0x20 2 (slot 0) (slot 1) ∷ [])

abbrev pub trie19 : Trie
trie19 =
    trie 4 0 (cell 0x6F 0 (further 1) (slot 0) ∷ cell 0x69 1 (further 2) (slot 0) ∷ cell 0x6E 2 (further 3) (slot 0)
    ∷ cell 0x6E 3 (slot 3) (slot 0) ∷ [])

abbrev pub trie20 : Trie
trie20 =
    trie 3 0 (cell 0x62 0 (further 1) (slot 1) ∷ cell 0x61 1 (further 2) (slot 1) ∷ cell 0x61 2 (slot 0) (slot 1) ∷ [])

abbrev pub trie21 : Trie
trie21 =
    trie 20 0 (cell 0x72 0 (further 1) (slot 2) ∷ cell 0x74 1 (further 2) (slot 2) ∷ cell 0x74 2 (further 3) (slot 2)
    ∷ cell 0x73 3 (further 4) (slot 2) ∷ cell 0x74 4 (further 5) (slot 2) ∷ cell 0x73 5 (further 6) (slot 2)
    ∷ cell 0x74 6 (further 7) (slot 2) ∷ cell 0x74 7 (further 8) (slot 2) ∷ cell 0x73 8 (further 9) (slot 2)
    ∷ cell 0x72 9 (further 10) (slot 2) ∷ cell 0x74 10 (further 11) (slot 2) ∷ cell 0x74 11 (further 12) (slot 2)
    ∷ cell 0x74 12 (further 13) (slot 2) ∷ cell 0x72 13 (further 14) (slot 2) ∷ cell 0x72 14 (further 15) (slot 2)
    ∷ cell 0x73 15 (further 16) (slot 2) ∷ cell 0x72 16 (further 17) (slot 2) ∷ cell 0x72 17 (further 18) (slot 2)
    ∷ cell 0x72 18 (further 19) (slot 2) ∷ cell 0x20 19 (slot 1) (slot 2) ∷ [])

abbrev pub trie22 : Trie
trie22 =
    trie 19 0 (cell 0x72 0 (further 1) (slot 1) ∷ cell 0x72 1 (further 2) (slot 1) ∷ cell 0x72 2 (further 3) (slot 1)
    ∷ cell 0x72 3 (further 4) (slot 1) ∷ cell 0x72 4 (further 5) (slot 1) ∷ cell 0x72 5 (further 6) (slot 1)
    ∷ cell 0x73 6 (further 7) (slot 1) ∷ cell 0x72 7 (further 8) (slot 1) ∷ cell 0x72 8 (further 9) (slot 1)
    ∷ cell 0x72 9 (further 10) (slot 1) ∷ cell 0x73 10 (further 11) (slot 1) ∷ cell 0x73 11 (further 12) (slot 1)
    ∷ cell 0x73 12 (further 13) (slot 1) ∷ cell 0x73 13 (further 14) (slot 1) ∷ cell 0x73 14 (further 15) (slot 1)
    ∷ cell 0x74 15 (further 16) (slot 1) ∷ cell 0x74 16 (further 17) (slot 1) ∷ cell 0x72 17 (further 18) (slot 1)
    ∷ cell 0x72 18 (slot 2) (slot 1) ∷ [])

abbrev pub trie23 : Trie
trie23 =
    trie 6 0 (cell 0x62 0 (further 1) (slot 1) ∷ cell 0x61 1 (further 2) (slot 1) ∷ cell 0x62 2 (further 3) (slot 1)
    ∷ cell 0x61 3 (further 4) (slot 1) ∷ cell 0x61 4 (further 5) (slot 1) ∷ cell 0x20 4 (slot 0) (slot 2) ∷ [])

abbrev pub trie24 : Trie
trie24 =
    trie 20 0 (cell 0x69 0 (further 17) (slot 1) ∷ cell 0x69 2 (further 13) (slot 1) ∷ cell 0x20 12 (further 6) (slot 1)
    ∷ cell 0x20 7 (further 8) (slot 1) ∷ cell 0x69 19 (slot 0) (slot 1) ∷ cell 0x6E 6 (further 3) (slot 1)
    ∷ cell 0x6E 13 (further 7) (slot 1) ∷ cell 0x6E 14 (further 11) (slot 1) ∷ cell 0x20 8 (further 9) (slot 1)
    ∷ cell 0x20 9 (further 12) (slot 1) ∷ cell 0x20 17 (further 14) (slot 1) ∷ cell 0x6E 15 (further 16) (slot 1)
    ∷ cell 0x20 10 (further 15) (slot 1) ∷ cell 0x6E 3 (further 18) (slot 1) ∷ cell 0x20 18 (further 4) (slot 1)
    ∷ cell 0x20 11 (further 2) (slot 1) ∷ cell 0x6E 16 (further 10) (slot 1) ∷ cell 0x69 1 (further 1) (slot 1)
    ∷ cell 0x69 4 (further 19) (slot 1) ∷ cell 0x69 5 (further 5) (slot 1) ∷ [])

abbrev pub trie25 : Trie
trie25 =
    trie 5 0 (cell 0x7D 0 (further 1) (slot 1) ∷ cell 0x21 1 (further 2) (slot 1) ∷ cell 0x21 2 (further 3) (slot 1)
    ∷ cell 0x21 3 (further 4) (slot 1) ∷ cell 0x21 4 (slot 0) (slot 1) ∷ [])

abbrev pub trie26 : Trie
trie26 =
    trie 2 0 (cell 0x69 0 (further 1) (slot 1) ∷ cell 0x20 1 (slot 0) (slot 1) ∷ [])

abbrev pub trie27 : Trie
trie27 =
    trie 19 0 (cell 0x7A 0 (further 1) (slot 2) ∷ cell 0x78 1 (further 2) (slot 2) ∷ cell 0x78 2 (slot 0) (further 3)
    ∷ cell 0x79 2 (further 4) (slot 2) ∷ cell 0x7A 3 (further 5) (slot 2) ∷ cell 0x79 4 (further 6) (slot 2)
    ∷ cell 0x7A 5 (further 7) (slot 2) ∷ cell 0x7A 6 (further 8) (slot 2) ∷ cell 0x79 7 (further 9) (slot 2)
    ∷ cell 0x7A 8 (further 10) (slot 2) ∷ cell 0x79 9 (further 11) (slot 2) ∷ cell 0x78 10 (further 12) (slot 2)
    ∷ cell 0x7A 11 (further 13) (slot 2) ∷ cell 0x78 12 (further 14) (slot 2) ∷ cell 0x79 13 (further 15) (slot 2)
    ∷ cell 0x7A 14 (further 16) (slot 2) ∷ cell 0x78 15 (further 17) (slot 2) ∷ cell 0x78 16 (further 18) (slot 2)
    ∷ cell 0x79 17 (slot 1) (slot 2) ∷ [])

abbrev pub trie28 : Trie
trie28 =
    trie 2 0 (cell 0x7D 0 (further 1) (slot 1) ∷ cell 0x21 1 (slot 0) (slot 1) ∷ [])

abbrev pub trie29 : Trie
trie29 =
    trie 5 0 (cell 0x7D 0 (further 4) (slot 1) ∷ cell 0x20 2 (slot 2) (slot 1) ∷ cell 0x21 1 (further 1) (slot 1)
    ∷ cell 0x61 0 (slot 0) (slot 3) ∷ cell 0x20 1 (further 3) (further 2) ∷ [])

abbrev pub trie30 : Trie
trie30 =
    trie 4 0 (cell 0x6E 0 (further 1) (further 2) ∷ cell 0x69 0 (slot 0) (slot 2) ∷ cell 0x6F 0 (further 3) (slot 3)
    ∷ cell 0x69 1 (slot 1) (slot 3) ∷ [])

abbrev pub trie31 : Trie
trie31 =
    trie 2 0 (cell 0x79 0 (further 1) (slot 1) ∷ cell 0x78 1 (slot 0) (slot 2) ∷ [])

abbrev pub trie32 : Trie
trie32 =
    trie 20 0 (cell 0x69 0 (further 1) (slot 1) ∷ cell 0x20 1 (further 2) (slot 1) ∷ cell 0x6E 2 (further 3) (slot 1)
    ∷ cell 0x20 3 (further 4) (slot 1) ∷ cell 0x6E 4 (further 5) (slot 1) ∷ cell 0x20 5 (further 6) (slot 1)
    ∷ cell 0x69 6 (further 7) (slot 1) ∷ cell 0x20 7 (further 8) (slot 1) ∷ cell 0x6E 8 (further 9) (slot 1)
    ∷ cell 0x6E 9 (further 10) (slot 1) ∷ cell 0x6E 10 (further 11) (slot 1) ∷ cell 0x6E 11 (further 12) (slot 1)
    ∷ cell 0x6E 12 (further 13) (slot 1) ∷ cell 0x20 13 (further 14) (slot 1) ∷ cell 0x20 14 (further 15) (slot 1)
    ∷ cell 0x6E 15 (further 16) (slot 1) ∷ cell 0x20 16 (further 17) (slot 1) ∷ cell 0x20 17 (further 18) (slot 1)
    ∷ cell 0x20 18 (further 19) (slot 1) ∷ cell 0x69 19 (slot 0) (slot 1) ∷ [])

abbrev pub trie33 : Trie
trie33 =
    trie 32771 0 (cell 0x6E 0 (further 1) (slot 1) ∷ cell 0x69 1 (further 2) (slot 2) ∷ cell 0x69 0 (slot 0) (slot 3)
    ∷ [])

abbrev pub trie34 : Trie
trie34 =
    trie 1 0 (cell 0x21 0 (slot 0) (slot 1) ∷ [])

abbrev pub trie35 : Trie
trie35 =
    trie 5 0 (cell 0x69 0 (further 1) (slot 2) ∷ cell 0x20 1 (slot 0) (further 2) ∷ cell 0x6E 2 (further 3) (slot 2)
    ∷ cell 0x20 2 (further 4) (slot 2) ∷ cell 0x20 3 (slot 1) (slot 2) ∷ [])

abbrev pub trie36 : Trie
trie36 =
    trie 65535 0 (cell 0x61 0 (further 1) (slot 3) ∷ cell 0x61 1 (further 2) (slot 1) ∷ cell 0x20 1 (slot 0) (slot 2)
    ∷ [])

abbrev pub trie37 : Trie
trie37 =
    trie 4 0 (cell 0x7C 0 (further 1) (slot 1) ∷ cell 0x61 1 (further 2) (slot 1) ∷ cell 0x7D 2 (slot 1) (further 3)
    ∷ cell 0x61 3 (further 3) (slot 1) ∷ [])

abbrev pub trie38 : Trie
trie38 =
    trie 2 64 (cell 0x21 0 (further 1) (slot 1) ∷ cell 0x21 1 (slot 0) (slot 1) ∷ [])

abbrev pub trie39 : Trie
trie39 =
    trie 14 0 (cell 0x21 0 (further 10) (slot 1) ∷ cell 0x7D 3 (further 12) (slot 1) ∷ cell 0x21 3 (slot 0) (further 1)
    ∷ cell 0x21 11 (further 9) (slot 1) ∷ cell 0x21 8 (further 5) (slot 1) ∷ cell 0x21 9 (further 11) (slot 1)
    ∷ cell 0x7D 2 (further 2) (slot 1) ∷ cell 0x21 6 (further 8) (slot 1) ∷ cell 0x7D 7 (further 4) (slot 1)
    ∷ cell 0x21 12 (slot 2) (slot 1) ∷ cell 0x7D 1 (further 6) (slot 1) ∷ cell 0x21 10 (further 3) (slot 1)
    ∷ cell 0x21 4 (further 13) (slot 1) ∷ cell 0x7D 5 (further 7) (slot 1) ∷ [])

abbrev pub trie40 : Trie
trie40 =
    trie 2 0 (cell 0x61 0 (further 1) (slot 1) ∷ cell 0x00 1 (slot 0) (slot 1) ∷ [])

abbrev pub trie41 : Trie
trie41 =
    trie 3 0 (cell 0x69 0 (further 1) (slot 1) ∷ cell 0x6F 8 (further 2) (slot 1) ∷ cell 0x20 2 (slot 0) (slot 1) ∷ [])

abbrev pub trie42 : Trie
trie42 =
    trie 2 0 (cell 0x21 0 (further 1) (slot 2) ∷ cell 0x21 1 (slot 1) (slot 0) ∷ [])

abbrev pub trie43 : Trie
trie43 =
    trie 2 0 (cell 0x6F 0 (slot 64) (slot 1) ∷ cell 0x69 1 (slot 0) (slot 1) ∷ [])

abbrev pub trie44 : Trie
trie44 =
    trie 300 0 (cell 0x62 0 (further 1) (slot 1) ∷ cell 0x62 1 (further 2) (slot 1) ∷ cell 0x62 2 (further 3) (slot 1)
    ∷ cell 0x61 3 (slot 0) (slot 1) ∷ [])

abbrev pub trie45 : Trie
trie45 =
    trie 4 0 (cell 0x61 0 (further 1) (slot 1) ∷ cell 0x7D 1 (further 2) (slot 1) ∷ cell 0x61 2 (further 3) (slot 1)
    ∷ cell 0x21 3 (slot 0) (slot 1) ∷ [])

abbrev pub trie46 : Trie
trie46 =
    trie 5 0 (cell 0x72 0 (further 1) (slot 4) ∷ cell 0x61 1 (further 2) (slot 1) ∷ cell 0x74 2 (further 3) (slot 1)
    ∷ cell 0x65 3 (further 4) (slot 1) ∷ cell 0x32 4 (slot 0) (slot 1) ∷ [])

abbrev pub trie47 : Trie
trie47 =
    trie 5 0 (cell 0x72 0 (further 1) (slot 1) ∷ cell 0x61 1 (further 2) (slot 1) ∷ cell 0x74 2 (further 3) (slot 1)
    ∷ cell 0x65 3 (further 4) (slot 1) ∷ cell 0x32 4 (slot 4) (slot 1) ∷ [])

abbrev pub trie48 : Trie
trie48 =
    trie 5 0 (cell 0x72 0 (further 1) (slot 1) ∷ cell 0x61 1 (further 2) (slot 1) ∷ cell 0x74 2 (further 3) (slot 1)
    ∷ cell 0x65 3 (further 4) (slot 1) ∷ cell 0x32 4 (slot 2) (slot 1) ∷ [])

abbrev pub trie49 : Trie
trie49 =
    trie 5 0 (cell 0x72 0 (further 1) (slot 1) ∷ cell 0x61 1 (further 2) (slot 1) ∷ cell 0x74 2 (further 3) (slot 1)
    ∷ cell 0x65 3 (further 4) (slot 1) ∷ cell 0x32 4 (slot 1) (slot 1) ∷ [])

abbrev pub trie50 : Trie
trie50 =
    trie 5 0 (cell 0x72 0 (further 1) (slot 1) ∷ cell 0x61 1 (further 2) (slot 1) ∷ cell 0x74 2 (further 3) (slot 1)
    ∷ cell 0x65 3 (further 4) (slot 0) ∷ cell 0x32 4 (slot 0) (slot 1) ∷ [])

abbrev pub trie51 : Trie
trie51 =
    trie 5 0 (cell 0x72 0 (further 1) (slot 1) ∷ cell 0x61 1 (further 2) (slot 1) ∷ cell 0x74 2 (further 3) (slot 1)
    ∷ cell 0x65 3 (further 4) (slot 1) ∷ cell 0x32 4 (further 5) (slot 1) ∷ [])

abbrev pub trie52 : Trie
trie52 =
    trie 5 0 (cell 0x72 0 (further 1) (slot 1) ∷ cell 0x61 1 (further 2) (slot 1) ∷ cell 0x74 2 (further 3) (slot 1)
    ∷ cell 0x65 3 (further 4) (slot 1) ∷ cell 0x32 4 (further 0) (slot 1) ∷ [])

abbrev pub trie53 : Trie
trie53 =
    trie 5 0 (cell 0x72 0 (further 1) (further 4) ∷ cell 0x61 1 (further 2) (slot 1) ∷ cell 0x74 2 (further 3) (slot 1)
    ∷ cell 0x65 3 (further 4) (slot 1) ∷ cell 0x32 4 (slot 0) (slot 1) ∷ [])

abbrev pub trie54 : Trie
trie54 =
    trie 5 0 (cell 0x72 0 (further 1) (slot 1) ∷ cell 0x61 1 (further 2) (slot 1) ∷ cell 0x74 3 (further 3) (slot 1)
    ∷ cell 0x65 3 (further 4) (slot 1) ∷ cell 0x32 4 (slot 0) (slot 1) ∷ [])

abbrev pub trie55 : Trie
trie55 =
    trie 5 0 (cell 0x72 0 (further 1) (slot 1) ∷ cell 0x61 1 (further 2) (slot 1) ∷ cell 0x74 1 (further 3) (slot 1)
    ∷ cell 0x65 3 (further 4) (slot 1) ∷ cell 0x32 4 (slot 0) (slot 1) ∷ [])

abbrev pub trie56 : Trie
trie56 =
    trie 5 0 (cell 0x72 0 (further 1) (slot 1) ∷ cell 0x61 1 (further 2) (slot 1) ∷ cell 0x74 2 (further 3) (slot 1)
    ∷ cell 0x65 3 (further 4) (slot 1) ∷ cell 0x30 4 (slot 0) (slot 1) ∷ [])

abbrev pub trie57 : Trie
trie57 =
    trie 5 0 (cell 0x72 0 (further 1) (slot 1) ∷ cell 0x61 1 (further 2) (slot 1) ∷ cell 0x74 2 (further 3) (slot 1)
    ∷ cell 0x65 3 (further 4) (slot 1) ∷ cell 0x32 4 (slot 0) (slot 1) ∷ cell 0x01 0 (slot 0) (slot 0) ∷ [])

abbrev pub trie58 : Trie
trie58 =
    trie 5 0 (cell 0x72 0 (further 1) (slot 1) ∷ cell 0x61 1 (further 2) (slot 1) ∷ cell 0x74 2 (further 3) (slot 1)
    ∷ cell 0x65 3 (further 4) (slot 1) ∷ cell 0x32 4 (slot 0) (slot 1) ∷ cell 0x00 0 (slot 0) (slot 0) ∷ cell 0x00 0
    (slot 0) (slot 0) ∷ cell 0x00 0 (slot 0) (slot 0) ∷ cell 0x00 0 (slot 0) (slot 0) ∷ cell 0x00 0 (slot 0) (slot 0)
    ∷ cell 0x00 0 (slot 0) (slot 0) ∷ cell 0x00 0 (slot 0) (slot 0) ∷ cell 0x00 0 (slot 0) (slot 0) ∷ cell 0x00 0
    (slot 0) (slot 0) ∷ cell 0x00 0 (slot 0) (slot 0) ∷ cell 0x00 0 (slot 0) (slot 0) ∷ cell 0x00 0 (slot 0) (slot 0)
    ∷ cell 0x00 0 (slot 0) (slot 0) ∷ cell 0x00 0 (slot 0) (slot 0) ∷ cell 0x00 0 (slot 0) (slot 0) ∷ cell 0x00 0
    (slot 0) (slot 0) ∷ cell 0x00 0 (slot 0) (slot 0) ∷ cell 0x00 0 (slot 0) (slot 0) ∷ cell 0x00 0 (slot 0) (slot 0)
    ∷ cell 0x00 0 (slot 0) (slot 0) ∷ cell 0x00 0 (slot 0) (slot 0) ∷ cell 0x00 0 (slot 0) (slot 0) ∷ cell 0x00 0
    (slot 0) (slot 0) ∷ cell 0x00 0 (slot 0) (slot 0) ∷ cell 0x00 0 (slot 0) (slot 0) ∷ cell 0x00 0 (slot 0) (slot 0)
    ∷ cell 0x00 0 (slot 0) (slot 0) ∷ cell 0x00 0 (slot 0) (slot 0) ∷ cell 0x00 0 (slot 0) (slot 0) ∷ cell 0x00 0
    (slot 0) (slot 0) ∷ cell 0x00 0 (slot 0) (slot 0) ∷ cell 0x00 0 (slot 0) (slot 0) ∷ cell 0x00 0 (slot 0) (slot 0)
    ∷ cell 0x00 0 (slot 0) (slot 0) ∷ cell 0x00 0 (slot 0) (slot 0) ∷ cell 0x00 0 (slot 0) (slot 0) ∷ cell 0x00 0
    (slot 0) (slot 0) ∷ cell 0x00 0 (slot 0) (slot 0) ∷ cell 0x00 0 (slot 0) (slot 0) ∷ cell 0x00 0 (slot 0) (slot 0)
    ∷ cell 0x00 0 (slot 0) (slot 0) ∷ cell 0x00 0 (slot 0) (slot 0) ∷ cell 0x00 0 (slot 0) (slot 0) ∷ cell 0x00 0
    (slot 0) (slot 0) ∷ cell 0x00 0 (slot 0) (slot 0) ∷ cell 0x00 0 (slot 0) (slot 0) ∷ cell 0x00 0 (slot 0) (slot 0)
    ∷ cell 0x00 0 (slot 0) (slot 0) ∷ cell 0x00 0 (slot 0) (slot 0) ∷ cell 0x00 0 (slot 0) (slot 0) ∷ cell 0x00 0
    (slot 0) (slot 0) ∷ cell 0x00 0 (slot 0) (slot 0) ∷ cell 0x00 0 (slot 0) (slot 0) ∷ cell 0x00 0 (slot 0) (slot 0)
    ∷ cell 0x00 0 (slot 0) (slot 0) ∷ cell 0x00 0 (slot 0) (slot 0) ∷ cell 0x00 0 (slot 0) (slot 0) ∷ cell 0x00 0
    (slot 0) (slot 0) ∷ cell 0x00 0 (slot 0) (slot 0) ∷ cell 0x00 0 (slot 0) (slot 0) ∷ cell 0x00 0 (slot 0) (slot 0)
    ∷ cell 0x00 0 (slot 0) (slot 0) ∷ cell 0x00 0 (slot 0) (slot 0) ∷ cell 0x00 0 (slot 0) (slot 0) ∷ cell 0x00 0
    (slot 0) (slot 0) ∷ cell 0x00 0 (slot 0) (slot 0) ∷ cell 0x00 0 (slot 0) (slot 0) ∷ cell 0x00 0 (slot 0) (slot 0)
    ∷ cell 0x00 0 (slot 0) (slot 0) ∷ cell 0x00 0 (slot 0) (slot 0) ∷ cell 0x00 0 (slot 0) (slot 0) ∷ cell 0x00 0
    (slot 0) (slot 0) ∷ cell 0x00 0 (slot 0) (slot 0) ∷ cell 0x00 0 (slot 0) (slot 0) ∷ cell 0x00 0 (slot 0) (slot 0)
    ∷ cell 0x00 0 (slot 0) (slot 0) ∷ cell 0x00 0 (slot 0) (slot 0) ∷ cell 0x00 0 (slot 0) (slot 0) ∷ cell 0x00 0
    (slot 0) (slot 0) ∷ cell 0x00 0 (slot 0) (slot 0) ∷ cell 0x00 0 (slot 0) (slot 0) ∷ cell 0x00 0 (slot 0) (slot 0)
    ∷ cell 0x00 0 (slot 0) (slot 0) ∷ cell 0x00 0 (slot 0) (slot 0) ∷ cell 0x00 0 (slot 0) (slot 0) ∷ cell 0x00 0
    (slot 0) (slot 0) ∷ cell 0x00 0 (slot 0) (slot 0) ∷ cell 0x00 0 (slot 0) (slot 0) ∷ cell 0x00 0 (slot 0) (slot 0)
    ∷ cell 0x00 0 (slot 0) (slot 0) ∷ cell 0x00 0 (slot 0) (slot 0) ∷ cell 0x00 0 (slot 0) (slot 0) ∷ cell 0x00 0
    (slot 0) (slot 0) ∷ cell 0x00 0 (slot 0) (slot 0) ∷ cell 0x00 0 (slot 0) (slot 0) ∷ cell 0x00 0 (slot 0) (slot 0)
    ∷ cell 0x00 0 (slot 0) (slot 0) ∷ cell 0x00 0 (slot 0) (slot 0) ∷ cell 0x00 0 (slot 0) (slot 0) ∷ cell 0x00 0
    (slot 0) (slot 0) ∷ cell 0x00 0 (slot 0) (slot 0) ∷ cell 0x00 0 (slot 0) (slot 0) ∷ cell 0x00 0 (slot 0) (slot 0)
    ∷ cell 0x00 0 (slot 0) (slot 0) ∷ cell 0x00 0 (slot 0) (slot 0) ∷ cell 0x00 0 (slot 0) (slot 0) ∷ cell 0x00 0
    (slot 0) (slot 0) ∷ cell 0x00 0 (slot 0) (slot 0) ∷ cell 0x00 0 (slot 0) (slot 0) ∷ cell 0x00 0 (slot 0) (slot 0)
    ∷ cell 0x00 0 (slot 0) (slot 0) ∷ cell 0x00 0 (slot 0) (slot 0) ∷ cell 0x00 0 (slot 0) (slot 0) ∷ cell 0x00 0
    (slot 0) (slot 0) ∷ cell 0x00 0 (slot 0) (slot 0) ∷ cell 0x00 0 (slot 0) (slot 0) ∷ cell 0x00 0 (slot 0) (slot 0)
    ∷ cell 0x00 0 (slot 0) (slot 0) ∷ cell 0x00 0 (slot 0) (slot 0) ∷ cell 0x00 0 (slot 0) (slot 0) ∷ cell 0x00 0
    (slot 0) (slot 0) ∷ cell 0x00 0 (slot 0) (slot 0) ∷ cell 0x00 0 (slot 0) (slot 0) ∷ cell 0x00 0 (slot 0) (slot 0)
    ∷ cell 0x00 0 (slot 0) (slot 0) ∷ cell 0x00 0 (slot 0) (slot 0) ∷ cell 0x00 0 (slot 0) (slot 0) ∷ cell 0x00 0
    (slot 0) (slot 0) ∷ cell 0x00 0 (slot 0) (slot 0) ∷ cell 0x00 0 (slot 0) (slot 0) ∷ cell 0x00 0 (slot 0) (slot 0)
    ∷ cell 0x00 0 (slot 0) (slot 0) ∷ cell 0x00 0 (slot 0) (slot 0) ∷ cell 0x00 0 (slot 0) (slot 0) ∷ cell 0x00 0
    (slot 0) (slot 0) ∷ cell 0x00 0 (slot 0) (slot 0) ∷ cell 0x00 0 (slot 0) (slot 0) ∷ cell 0x00 0 (slot 0) (slot 0)
    ∷ cell 0x00 0 (slot 0) (slot 0) ∷ cell 0x00 0 (slot 0) (slot 0) ∷ cell 0x00 0 (slot 0) (slot 0) ∷ cell 0x00 0
    (slot 0) (slot 0) ∷ cell 0x00 0 (slot 0) (slot 0) ∷ cell 0x00 0 (slot 0) (slot 0) ∷ cell 0x00 0 (slot 0) (slot 0)
    ∷ cell 0x00 0 (slot 0) (slot 0) ∷ cell 0x00 0 (slot 0) (slot 0) ∷ cell 0x00 0 (slot 0) (slot 0) ∷ cell 0x00 0
    (slot 0) (slot 0) ∷ cell 0x00 0 (slot 0) (slot 0) ∷ cell 0x00 0 (slot 0) (slot 0) ∷ cell 0x00 0 (slot 0) (slot 0)
    ∷ cell 0x00 0 (slot 0) (slot 0) ∷ cell 0x00 0 (slot 0) (slot 0) ∷ cell 0x00 0 (slot 0) (slot 0) ∷ cell 0x00 0
    (slot 0) (slot 0) ∷ cell 0x00 0 (slot 0) (slot 0) ∷ cell 0x00 0 (slot 0) (slot 0) ∷ cell 0x00 0 (slot 0) (slot 0)
    ∷ cell 0x00 0 (slot 0) (slot 0) ∷ cell 0x00 0 (slot 0) (slot 0) ∷ cell 0x00 0 (slot 0) (slot 0) ∷ cell 0x00 0
    (slot 0) (slot 0) ∷ cell 0x00 0 (slot 0) (slot 0) ∷ cell 0x00 0 (slot 0) (slot 0) ∷ cell 0x00 0 (slot 0) (slot 0)
    ∷ cell 0x00 0 (slot 0) (slot 0) ∷ cell 0x00 0 (slot 0) (slot 0) ∷ cell 0x00 0 (slot 0) (slot 0) ∷ cell 0x00 0
    (slot 0) (slot 0) ∷ cell 0x00 0 (slot 0) (slot 0) ∷ cell 0x00 0 (slot 0) (slot 0) ∷ cell 0x00 0 (slot 0) (slot 0)
    ∷ cell 0x00 0 (slot 0) (slot 0) ∷ cell 0x00 0 (slot 0) (slot 0) ∷ cell 0x00 0 (slot 0) (slot 0) ∷ cell 0x00 0
    (slot 0) (slot 0) ∷ cell 0x00 0 (slot 0) (slot 0) ∷ cell 0x00 0 (slot 0) (slot 0) ∷ cell 0x00 0 (slot 0) (slot 0)
    ∷ cell 0x00 0 (slot 0) (slot 0) ∷ cell 0x00 0 (slot 0) (slot 0) ∷ cell 0x00 0 (slot 0) (slot 0) ∷ cell 0x00 0
    (slot 0) (slot 0) ∷ cell 0x00 0 (slot 0) (slot 0) ∷ cell 0x00 0 (slot 0) (slot 0) ∷ cell 0x00 0 (slot 0) (slot 0)
    ∷ cell 0x00 0 (slot 0) (slot 0) ∷ cell 0x00 0 (slot 0) (slot 0) ∷ cell 0x00 0 (slot 0) (slot 0) ∷ cell 0x00 0
    (slot 0) (slot 0) ∷ cell 0x00 0 (slot 0) (slot 0) ∷ cell 0x00 0 (slot 0) (slot 0) ∷ cell 0x00 0 (slot 0) (slot 0)
    ∷ cell 0x00 0 (slot 0) (slot 0) ∷ cell 0x00 0 (slot 0) (slot 0) ∷ cell 0x00 0 (slot 0) (slot 0) ∷ cell 0x00 0
    (slot 0) (slot 0) ∷ cell 0x00 0 (slot 0) (slot 0) ∷ cell 0x00 0 (slot 0) (slot 0) ∷ cell 0x00 0 (slot 0) (slot 0)
    ∷ cell 0x00 0 (slot 0) (slot 0) ∷ cell 0x00 0 (slot 0) (slot 0) ∷ cell 0x00 0 (slot 0) (slot 0) ∷ cell 0x00 0
    (slot 0) (slot 0) ∷ cell 0x00 0 (slot 0) (slot 0) ∷ cell 0x00 0 (slot 0) (slot 0) ∷ cell 0x00 0 (slot 0) (slot 0)
    ∷ cell 0x00 0 (slot 0) (slot 0) ∷ cell 0x00 0 (slot 0) (slot 0) ∷ cell 0x00 0 (slot 0) (slot 0) ∷ cell 0x00 0
    (slot 0) (slot 0) ∷ cell 0x00 0 (slot 0) (slot 0) ∷ cell 0x00 0 (slot 0) (slot 0) ∷ cell 0x00 0 (slot 0) (slot 0)
    ∷ cell 0x00 0 (slot 0) (slot 0) ∷ cell 0x00 0 (slot 0) (slot 0) ∷ cell 0x00 0 (slot 0) (slot 0) ∷ cell 0x00 0
    (slot 0) (slot 0) ∷ cell 0x00 0 (slot 0) (slot 0) ∷ cell 0x00 0 (slot 0) (slot 0) ∷ cell 0x00 0 (slot 0) (slot 0)
    ∷ cell 0x00 0 (slot 0) (slot 0) ∷ cell 0x00 0 (slot 0) (slot 0) ∷ cell 0x00 0 (slot 0) (slot 0) ∷ cell 0x00 0
    (slot 0) (slot 0) ∷ cell 0x00 0 (slot 0) (slot 0) ∷ cell 0x00 0 (slot 0) (slot 0) ∷ cell 0x00 0 (slot 0) (slot 0)
    ∷ cell 0x00 0 (slot 0) (slot 0) ∷ cell 0x00 0 (slot 0) (slot 0) ∷ cell 0x00 0 (slot 0) (slot 0) ∷ cell 0x00 0
    (slot 0) (slot 0) ∷ cell 0x00 0 (slot 0) (slot 0) ∷ cell 0x00 0 (slot 0) (slot 0) ∷ cell 0x00 0 (slot 0) (slot 0)
    ∷ cell 0x00 0 (slot 0) (slot 0) ∷ cell 0x00 0 (slot 0) (slot 0) ∷ cell 0x00 0 (slot 0) (slot 0) ∷ cell 0x00 0
    (slot 0) (slot 0) ∷ cell 0x00 0 (slot 0) (slot 0) ∷ cell 0x00 0 (slot 0) (slot 0) ∷ cell 0x00 0 (slot 0) (slot 0)
    ∷ cell 0x00 0 (slot 0) (slot 0) ∷ cell 0x00 0 (slot 0) (slot 0) ∷ cell 0x00 0 (slot 0) (slot 0) ∷ cell 0x00 0
    (slot 0) (slot 0) ∷ cell 0x00 0 (slot 0) (slot 0) ∷ cell 0x00 0 (slot 0) (slot 0) ∷ cell 0x00 0 (slot 0) (slot 0)
    ∷ cell 0x00 1 (slot 0) (slot 0) ∷ [])

abbrev pub trie59 : Trie
trie59 =
    trie 5 0 (cell 0x72 0 (further 1) (slot 1) ∷ cell 0x61 1 (further 2) (slot 1) ∷ cell 0x74 2 (further 3) (slot 1)
    ∷ cell 0x65 3 (further 4) (slot 1) ∷ cell 0x32 4 (slot 0) (slot 1) ∷ cell 0x00 0 (slot 0) (slot 1) ∷ [])

abbrev pub trie60 : Trie
trie60 =
    trie 5 1 (cell 0x72 0 (further 1) (slot 1) ∷ cell 0x61 1 (further 2) (slot 1) ∷ cell 0x74 2 (further 3) (slot 1)
    ∷ cell 0x65 3 (further 4) (slot 1) ∷ cell 0x32 4 (slot 0) (slot 1) ∷ [])

abbrev pub trie61 : Trie
trie61 =
    trie 4 0 (cell 0x72 0 (further 1) (slot 1) ∷ cell 0x61 1 (further 2) (slot 1) ∷ cell 0x74 2 (further 3) (slot 1)
    ∷ cell 0x65 3 (further 4) (slot 1) ∷ cell 0x32 4 (slot 0) (slot 1) ∷ [])

abbrev pub trie62 : Trie
trie62 =
    trie 6 0 (cell 0x72 0 (further 1) (slot 1) ∷ cell 0x61 1 (further 2) (slot 1) ∷ cell 0x74 2 (further 3) (slot 1)
    ∷ cell 0x65 3 (further 4) (slot 1) ∷ cell 0x32 4 (slot 0) (slot 1) ∷ [])

abbrev pub trie63 : Trie
trie63 =
    trie 257 0 (cell 0x72 0 (further 1) (slot 1) ∷ cell 0x61 1 (further 2) (slot 1) ∷ cell 0x74 2 (further 3) (slot 1)
    ∷ cell 0x65 3 (further 4) (slot 1) ∷ cell 0x32 4 (slot 0) (slot 1) ∷ [])

abbrev pub trie64 : Trie
trie64 =
    trie 3 0 (cell 0x72 0 (further 1) (slot 1) ∷ cell 0x21 1 (slot 0) (further 2) ∷ cell 0x7A 0 (further 1) (slot 1)
    ∷ [])

abbrev pub trie65 : Trie
trie65 =
    trie 4 0 (cell 0x72 0 (further 1) (slot 1) ∷ cell 0x21 1 (slot 0) (further 2) ∷ cell 0x7A 0 (further 1) (slot 1)
    ∷ [])

abbrev pub trie66 : Trie
trie66 =
    trie 24 0 (cell 0x72 0 (further 1) (slot 1) ∷ cell 0x72 1 (further 2) (slot 1) ∷ cell 0x72 2 (further 3) (slot 1)
    ∷ cell 0x72 3 (further 4) (slot 1) ∷ cell 0x72 4 (further 5) (slot 1) ∷ cell 0x72 5 (further 6) (slot 1)
    ∷ cell 0x72 6 (further 7) (slot 1) ∷ cell 0x72 7 (further 8) (slot 1) ∷ cell 0x72 8 (further 9) (slot 1)
    ∷ cell 0x72 9 (further 10) (slot 1) ∷ cell 0x72 10 (further 11) (slot 1) ∷ cell 0x72 11 (further 12) (slot 1)
    ∷ cell 0x72 12 (further 13) (slot 1) ∷ cell 0x72 13 (further 14) (slot 1) ∷ cell 0x72 14 (further 15) (slot 1)
    ∷ cell 0x72 15 (further 16) (slot 1) ∷ cell 0x72 16 (further 17) (slot 1) ∷ cell 0x72 17 (further 18) (slot 1)
    ∷ cell 0x72 18 (further 19) (slot 1) ∷ cell 0x72 19 (further 20) (slot 1) ∷ cell 0x72 20 (further 21) (slot 1)
    ∷ cell 0x72 21 (further 22) (slot 1) ∷ cell 0x72 22 (further 23) (slot 1) ∷ cell 0x72 23 (slot 0) (slot 1) ∷ [])

abbrev pub trie67 : Trie
trie67 =
    trie 25 0 (cell 0x72 0 (further 1) (slot 1) ∷ cell 0x72 1 (further 2) (slot 1) ∷ cell 0x72 2 (further 3) (slot 1)
    ∷ cell 0x72 3 (further 4) (slot 1) ∷ cell 0x72 4 (further 5) (slot 1) ∷ cell 0x72 5 (further 6) (slot 1)
    ∷ cell 0x72 6 (further 7) (slot 1) ∷ cell 0x72 7 (further 8) (slot 1) ∷ cell 0x72 8 (further 9) (slot 1)
    ∷ cell 0x72 9 (further 10) (slot 1) ∷ cell 0x72 10 (further 11) (slot 1) ∷ cell 0x72 11 (further 12) (slot 1)
    ∷ cell 0x72 12 (further 13) (slot 1) ∷ cell 0x72 13 (further 14) (slot 1) ∷ cell 0x72 14 (further 15) (slot 1)
    ∷ cell 0x72 15 (further 16) (slot 1) ∷ cell 0x72 16 (further 17) (slot 1) ∷ cell 0x72 17 (further 18) (slot 1)
    ∷ cell 0x72 18 (further 19) (slot 1) ∷ cell 0x72 19 (further 20) (slot 1) ∷ cell 0x72 20 (further 21) (slot 1)
    ∷ cell 0x72 21 (further 22) (slot 1) ∷ cell 0x72 22 (further 23) (slot 1) ∷ cell 0x72 23 (further 24) (slot 1)
    ∷ cell 0x72 24 (slot 0) (slot 1) ∷ [])

abbrev pub trie68 : Trie
trie68 =
    trie 4 0 (cell 0x69 0 (further 1) (further 2) ∷ cell 0x69 1 (slot 0) (slot 3) ∷ cell 0x6E 0 (further 3) (slot 1)
    ∷ cell 0x20 1 (slot 3) (slot 1) ∷ [])

abbrev pub trie69 : Trie
trie69 =
    trie 3 0 (cell 0x6E 0 (further 1) (slot 1) ∷ cell 0x6F 1 (further 2) (slot 1) ∷ cell 0x6E 2 (slot 0) (slot 1) ∷ [])

abbrev pub trie70 : Trie
trie70 =
    trie 5 0 (cell 0x73 0 (further 1) (slot 1) ∷ cell 0x72 1 (further 2) (slot 1) ∷ cell 0x73 2 (further 3) (slot 1)
    ∷ cell 0x73 3 (further 4) (slot 1) ∷ cell 0x73 4 (slot 0) (slot 1) ∷ [])

abbrev pub trie71 : Trie
trie71 =
    trie 0 0 (cell 0x00 0 (slot 255) (slot 0) ∷ [])

abbrev pub trie72 : Trie
trie72 =
    trie 6 0 (cell 0x69 0 (further 2) (slot 2) ∷ cell 0x6E 4 (slot 1) (slot 2) ∷ cell 0x6F 1 (further 3) (slot 2)
    ∷ cell 0x6F 2 (further 4) (slot 2) ∷ cell 0x6E 3 (further 5) (slot 2) ∷ cell 0x20 4 (slot 0) (further 1) ∷ [])

abbrev pub trie73 : Trie
trie73 =
    trie 5 0 (cell 0x62 0 (further 1) (slot 2) ∷ cell 0x62 1 (further 2) (slot 2) ∷ cell 0x20 2 (slot 0) (further 3)
    ∷ cell 0x62 2 (further 4) (slot 2) ∷ cell 0x61 3 (slot 4) (slot 2) ∷ [])

abbrev pub trie74 : Trie
trie74 =
    trie 4 0 (cell 0x74 0 (further 1) (slot 1) ∷ cell 0x72 1 (further 3) (slot 1) ∷ cell 0x73 3 (slot 0) (slot 1)
    ∷ cell 0x74 2 (further 2) (slot 1) ∷ [])

abbrev pub trie75 : Trie
trie75 =
    trie 20 0 (cell 0x79 0 (further 1) (slot 1) ∷ cell 0x79 1 (further 2) (slot 1) ∷ cell 0x7A 2 (further 3) (slot 1)
    ∷ cell 0x7A 3 (further 4) (slot 1) ∷ cell 0x7A 4 (further 5) (slot 1) ∷ cell 0x78 5 (further 6) (slot 1)
    ∷ cell 0x79 6 (further 7) (slot 1) ∷ cell 0x7A 7 (further 8) (slot 1) ∷ cell 0x79 8 (further 9) (slot 1)
    ∷ cell 0x79 9 (further 10) (slot 1) ∷ cell 0x79 10 (further 11) (slot 1) ∷ cell 0x78 11 (further 12) (slot 1)
    ∷ cell 0x78 12 (further 13) (slot 1) ∷ cell 0x7A 13 (further 14) (slot 1) ∷ cell 0x79 14 (further 15) (slot 1)
    ∷ cell 0x7A 15 (further 16) (slot 1) ∷ cell 0x7A 16 (further 17) (slot 1) ∷ cell 0x7A 17 (further 18) (slot 1)
    ∷ cell 0x78 18 (further 19) (slot 1) ∷ cell 0x78 19 (slot 0) (slot 1) ∷ [])

abbrev pub trie76 : Trie
trie76 =
    trie 14 0 (cell 0x6E 0 (further 1) (slot 2) ∷ cell 0x6F 1 (further 2) (slot 2) ∷ cell 0x6F 2 (further 3) (slot 2)
    ∷ cell 0x6F 3 (further 4) (slot 2) ∷ cell 0x6E 4 (further 5) (slot 2) ∷ cell 0x6F 5 (further 6) (slot 2)
    ∷ cell 0x6E 6 (further 7) (slot 2) ∷ cell 0x6E 7 (further 8) (slot 2) ∷ cell 0x6F 8 (further 9) (slot 2)
    ∷ cell 0x69 9 (further 10) (slot 2) ∷ cell 0x20 10 (slot 0) (further 11) ∷ cell 0x6F 10 (further 12) (slot 2)
    ∷ cell 0x69 11 (further 13) (slot 2) ∷ cell 0x6E 12 (slot 1) (slot 2) ∷ [])

abbrev pub trie77 : Trie
trie77 =
    trie 3 0 (cell 0x7A 0 (further 1) (slot 1) ∷ cell 0x78 1 (further 2) (slot 1) ∷ cell 0x20 1 (slot 0) (slot 2) ∷ [])

abbrev pub trie78 : Trie
trie78 =
    trie 3 0 (cell 0x61 0 (further 2) (slot 1) ∷ cell 0x20 1 (slot 0) (slot 2) ∷ cell 0x61 1 (further 1) (slot 1) ∷ [])

abbrev pub trie79 : Trie
trie79 =
    trie 5 0 (cell 0x69 0 (further 1) (slot 1) ∷ cell 0x69 1 (further 2) (slot 1) ∷ cell 0x6E 2 (further 3) (slot 1)
    ∷ cell 0x20 3 (further 4) (slot 1) ∷ cell 0x69 4 (slot 0) (slot 2) ∷ [])

abbrev pub trie80 : Trie
trie80 =
    trie 2 0 (cell 0x21 0 (further 1) (slot 1) ∷ cell 0x21 1 (slot 0) (slot 1) ∷ [])

abbrev pub trie81 : Trie
trie81 =
    trie 5 0 (cell 0x21 0 (further 1) (slot 2) ∷ cell 0x21 1 (slot 0) (further 2) ∷ cell 0x7D 1 (further 3) (slot 2)
    ∷ cell 0x7D 2 (further 4) (slot 2) ∷ cell 0x20 3 (slot 1) (slot 2) ∷ [])

abbrev pub trie82 : Trie
trie82 =
    trie 3 0 (cell 0x7D 0 (further 1) (slot 1) ∷ cell 0x7D 1 (further 2) (slot 1) ∷ cell 0x21 2 (slot 0) (slot 1) ∷ [])

abbrev pub trie83 : Trie
trie83 =
    trie 4 0 (cell 0x61 0 (further 1) (slot 1) ∷ cell 0x20 1 (further 2) (slot 1) ∷ cell 0x61 2 (further 3) (slot 1)
    ∷ cell 0x61 3 (slot 0) (slot 2) ∷ [])

abbrev pub trie84 : Trie
trie84 =
    trie 5 0 (cell 0x61 0 (further 1) (slot 1) ∷ cell 0x20 1 (further 2) (slot 1) ∷ cell 0x61 2 (further 3) (slot 1)
    ∷ cell 0x61 3 (further 4) (slot 2) ∷ cell 0x61 4 (slot 0) (slot 3) ∷ [])

abbrev pub trie85 : Trie
trie85 =
    trie 4 0 (cell 0x61 0 (further 1) (slot 1) ∷ cell 0x20 1 (further 2) (slot 1) ∷ cell 0x61 2 (further 3) (slot 1)
    ∷ cell 0x20 2 (slot 0) (slot 2) ∷ [])

abbrev pub trie86 : Trie
trie86 =
    trie 5 0 (cell 0x61 0 (further 1) (slot 1) ∷ cell 0x20 1 (further 2) (slot 1) ∷ cell 0x61 2 (further 3) (slot 1)
    ∷ cell 0x20 2 (slot 0) (further 4) ∷ cell 0x20 3 (slot 2) (slot 3) ∷ [])

abbrev pub trie87 : Trie
trie87 =
    trie 21 0 (cell 0x6E 0 (further 1) (slot 1) ∷ cell 0x69 1 (further 2) (slot 1) ∷ cell 0x69 2 (further 3) (slot 1)
    ∷ cell 0x69 3 (further 4) (slot 1) ∷ cell 0x69 4 (further 5) (slot 1) ∷ cell 0x6E 5 (further 6) (slot 1)
    ∷ cell 0x69 6 (further 7) (slot 1) ∷ cell 0x69 7 (further 8) (slot 1) ∷ cell 0x69 8 (further 9) (slot 1)
    ∷ cell 0x69 9 (further 10) (slot 1) ∷ cell 0x6E 10 (further 11) (slot 1) ∷ cell 0x6E 11 (further 12) (slot 1)
    ∷ cell 0x6F 12 (further 13) (slot 1) ∷ cell 0x6E 13 (further 14) (slot 1) ∷ cell 0x69 14 (further 15) (slot 1)
    ∷ cell 0x69 15 (further 16) (slot 1) ∷ cell 0x6E 16 (further 17) (slot 1) ∷ cell 0x6F 17 (further 18) (slot 1)
    ∷ cell 0x69 18 (further 19) (slot 1) ∷ cell 0x69 19 (further 20) (slot 1) ∷ cell 0x20 15 (slot 0) (slot 2) ∷ [])

abbrev pub trie88 : Trie
trie88 =
    trie 21 0 (cell 0x6E 0 (further 1) (slot 3) ∷ cell 0x69 1 (further 2) (slot 3) ∷ cell 0x69 2 (further 3) (slot 3)
    ∷ cell 0x69 3 (further 4) (slot 3) ∷ cell 0x69 4 (further 5) (slot 3) ∷ cell 0x6E 5 (further 6) (slot 3)
    ∷ cell 0x69 6 (further 7) (slot 3) ∷ cell 0x69 7 (further 8) (slot 3) ∷ cell 0x69 8 (further 9) (slot 3)
    ∷ cell 0x69 9 (further 10) (slot 3) ∷ cell 0x6E 10 (further 11) (slot 3) ∷ cell 0x6E 11 (further 12) (slot 3)
    ∷ cell 0x6F 12 (further 13) (slot 3) ∷ cell 0x6E 13 (further 14) (slot 3) ∷ cell 0x69 14 (further 15) (slot 1)
    ∷ cell 0x69 15 (further 16) (slot 1) ∷ cell 0x6E 16 (further 17) (slot 1) ∷ cell 0x6F 17 (further 18) (slot 1)
    ∷ cell 0x69 18 (further 19) (slot 1) ∷ cell 0x69 19 (further 20) (slot 1) ∷ cell 0x20 15 (slot 0) (slot 2) ∷ [])

abbrev pub trie89 : Trie
trie89 =
    trie 2 0 (cell 0x21 0 (further 1) (slot 2) ∷ cell 0x21 1 (slot 0) (slot 1) ∷ [])

abbrev pub trie90 : Trie
trie90 =
    trie 4 0 (cell 0x21 0 (further 1) (further 2) ∷ cell 0x21 1 (slot 0) (slot 1) ∷ cell 0x61 0 (further 3) (slot 3)
    ∷ cell 0x61 1 (slot 2) (slot 3) ∷ [])

abbrev pub trie91 : Trie
trie91 =
    trie 3 0 (cell 0x21 0 (slot 0) (further 1) ∷ cell 0x61 0 (further 2) (slot 2) ∷ cell 0x61 1 (slot 1) (slot 2) ∷ [])

abbrev pub trie92 : Trie
trie92 =
    trie 3 0 (cell 0x21 0 (slot 0) (further 1) ∷ cell 0x61 0 (further 2) (slot 3) ∷ cell 0x61 1 (slot 1) (slot 2) ∷ [])

abbrev pub trie93 : Trie
trie93 =
    trie 3 0 (cell 0x61 0 (further 2) (slot 1) ∷ cell 0x20 2 (slot 0) (slot 2) ∷ cell 0x21 1 (further 1) (slot 1) ∷ [])

abbrev pub trie94 : Trie
trie94 =
    trie 5 0 (cell 0x61 0 (further 2) (slot 1) ∷ cell 0x20 2 (slot 0) (further 3) ∷ cell 0x21 1 (further 1) (slot 1)
    ∷ cell 0x61 2 (further 4) (slot 3) ∷ cell 0x20 3 (slot 2) (slot 3) ∷ [])

abbrev pub trie95 : Trie
trie95 =
    trie 2 0 (cell 0x61 0 (further 1) (slot 1) ∷ cell 0x61 1 (slot 0) (slot 1) ∷ [])

abbrev pub trie96 : Trie
trie96 =
    trie 4 0 (cell 0x61 0 (further 1) (slot 2) ∷ cell 0x61 1 (slot 0) (further 2) ∷ cell 0x62 1 (further 3) (slot 2)
    ∷ cell 0x61 2 (slot 1) (slot 2) ∷ [])

abbrev pub trie97 : Trie
trie97 =
    trie 5 0 (cell 0x69 0 (further 1) (slot 1) ∷ cell 0x20 1 (further 2) (slot 1) ∷ cell 0x20 2 (further 3) (slot 1)
    ∷ cell 0x69 3 (further 4) (slot 1) ∷ cell 0x69 4 (slot 0) (slot 1) ∷ [])

abbrev pub trie98 : Trie
trie98 =
    trie 5 0 (cell 0x69 0 (further 1) (slot 2) ∷ cell 0x20 1 (further 2) (slot 2) ∷ cell 0x20 2 (further 3) (slot 2)
    ∷ cell 0x69 3 (further 4) (slot 2) ∷ cell 0x69 4 (slot 0) (slot 1) ∷ [])

abbrev pub trie99 : Trie
trie99 =
    trie 4 0 (cell 0x7D 0 (further 1) (slot 1) ∷ cell 0x21 1 (further 2) (slot 1) ∷ cell 0x21 2 (further 3) (slot 1)
    ∷ cell 0x20 3 (slot 0) (slot 2) ∷ [])

abbrev pub trie100 : Trie
trie100 =
    trie 5 0 (cell 0x21 0 (further 1) (slot 1) ∷ cell 0x7D 1 (further 2) (slot 1) ∷ cell 0x21 2 (further 3) (slot 1)
    ∷ cell 0x7D 3 (further 4) (slot 1) ∷ cell 0x20 4 (slot 0) (slot 1) ∷ [])

abbrev pub trie101 : Trie
trie101 =
    trie 14 0 (cell 0x62 0 (further 1) (slot 1) ∷ cell 0x61 1 (further 2) (slot 1) ∷ cell 0x61 2 (further 3) (slot 1)
    ∷ cell 0x62 3 (further 4) (slot 1) ∷ cell 0x61 4 (further 5) (slot 1) ∷ cell 0x61 5 (further 6) (slot 1)
    ∷ cell 0x62 6 (further 7) (slot 1) ∷ cell 0x62 7 (further 8) (slot 1) ∷ cell 0x62 8 (further 9) (slot 1)
    ∷ cell 0x61 9 (further 10) (slot 1) ∷ cell 0x61 10 (further 11) (slot 1) ∷ cell 0x61 11 (further 12) (slot 1)
    ∷ cell 0x62 12 (further 13) (slot 1) ∷ cell 0x61 13 (slot 0) (slot 1) ∷ [])

abbrev pub trie102 : Trie
trie102 =
    trie 20 0 (cell 0x61 0 (further 1) (slot 2) ∷ cell 0x62 1 (further 2) (slot 2) ∷ cell 0x62 2 (further 3) (slot 2)
    ∷ cell 0x61 3 (further 4) (slot 2) ∷ cell 0x61 4 (further 5) (slot 2) ∷ cell 0x62 5 (further 6) (slot 2)
    ∷ cell 0x61 6 (further 7) (slot 2) ∷ cell 0x61 7 (further 8) (slot 2) ∷ cell 0x62 8 (further 9) (slot 2)
    ∷ cell 0x62 9 (further 10) (slot 2) ∷ cell 0x62 10 (further 11) (slot 2) ∷ cell 0x61 11 (further 12) (slot 2)
    ∷ cell 0x62 12 (further 13) (slot 2) ∷ cell 0x61 13 (further 14) (slot 2) ∷ cell 0x62 14 (further 15) (slot 2)
    ∷ cell 0x62 15 (further 16) (slot 2) ∷ cell 0x20 16 (slot 0) (further 17) ∷ cell 0x62 128 (further 18) (slot 2)
    ∷ cell 0x62 17 (further 19) (slot 2) ∷ cell 0x61 18 (slot 1) (slot 2) ∷ [])

abbrev pub trie103 : Trie
trie103 =
    trie 3 0 (cell 0x7D 0 (further 1) (slot 2) ∷ cell 0x21 1 (further 2) (slot 2) ∷ cell 0x20 2 (slot 0) (slot 1) ∷ [])

abbrev pub trie104 : Trie
trie104 =
    trie 22 0 (cell 0x79 0 (further 1) (slot 2) ∷ cell 0x78 1 (further 2) (slot 2) ∷ cell 0x78 2 (further 3) (slot 2)
    ∷ cell 0x79 3 (further 4) (slot 2) ∷ cell 0x79 4 (further 5) (slot 2) ∷ cell 0x7A 5 (further 6) (slot 2)
    ∷ cell 0x7A 6 (further 7) (slot 2) ∷ cell 0x78 7 (further 8) (slot 2) ∷ cell 0x78 8 (further 9) (slot 2)
    ∷ cell 0x78 9 (further 10) (slot 2) ∷ cell 0x78 10 (further 11) (slot 2) ∷ cell 0x78 11 (further 12) (slot 2)
    ∷ cell 0x7A 12 (further 13) (slot 2) ∷ cell 0x78 13 (further 14) (slot 2) ∷ cell 0x79 14 (further 15) (slot 2)
    ∷ cell 0x78 15 (further 16) (slot 2) ∷ cell 0x79 16 (further 17) (slot 2) ∷ cell 0x7A 17 (further 18) (slot 2)
    ∷ cell 0x79 18 (further 19) (slot 2) ∷ cell 0x78 19 (further 20) (slot 2) ∷ cell 0x78 20 (slot 0) (further 21)
    ∷ cell 0x79 20 (slot 1) (slot 2) ∷ [])

abbrev pub trie105 : Trie
trie105 =
    trie 3 0 (cell 0x69 0 (further 1) (slot 1) ∷ cell 0x69 1 (further 2) (slot 1) ∷ cell 0x69 2 (slot 0) (slot 1) ∷ [])

abbrev pub trie106 : Trie
trie106 =
    trie 25 0 (cell 0x7A 0 (further 2) (slot 1) ∷ cell 0x78 16 (further 12) (slot 1) ∷ cell 0x78 1 (further 14) (slot 1)
    ∷ cell 0x79 9 (further 21) (slot 1) ∷ cell 0x7A 22 (further 7) (slot 1) ∷ cell 0x79 3 (further 6) (slot 1)
    ∷ cell 0x78 4 (further 9) (slot 1) ∷ cell 0x78 23 (slot 2) (slot 1) ∷ cell 0x79 12 (further 15) (slot 1)
    ∷ cell 0x78 5 (further 19) (slot 1) ∷ cell 0x79 21 (further 23) (slot 1) ∷ cell 0x79 11 (further 8) (slot 1)
    ∷ cell 0x78 17 (further 20) (slot 1) ∷ cell 0x7A 8 (further 3) (slot 1) ∷ cell 0x7A 2 (further 5) (slot 1)
    ∷ cell 0x78 13 (further 18) (slot 1) ∷ cell 0x7A 7 (further 13) (slot 1) ∷ cell 0x78 19 (further 22) (slot 1)
    ∷ cell 0x79 14 (further 24) (slot 1) ∷ cell 0x7A 6 (further 16) (slot 1) ∷ cell 0x79 18 (further 17) (slot 1)
    ∷ cell 0x7A 10 (further 11) (slot 1) ∷ cell 0x78 20 (further 10) (slot 1) ∷ cell 0x20 22 (slot 0) (further 4)
    ∷ cell 0x79 15 (further 1) (slot 1) ∷ [])

abbrev pub trie107 : Trie
trie107 =
    trie 5 0 (cell 0x61 0 (further 1) (slot 1) ∷ cell 0x62 1 (further 2) (slot 1) ∷ cell 0x62 2 (further 3) (slot 1)
    ∷ cell 0x62 3 (further 4) (slot 1) ∷ cell 0x61 4 (slot 0) (slot 1) ∷ [])

abbrev pub trie108 : Trie
trie108 =
    trie 3 0 (cell 0x62 0 (further 2) (slot 1) ∷ cell 0x20 2 (slot 0) (slot 1) ∷ cell 0x61 1 (further 1) (slot 1) ∷ [])

abbrev pub trie109 : Trie
trie109 =
    trie 3 0 (cell 0x69 0 (further 1) (slot 1) ∷ cell 0x20 1 (further 2) (slot 1) ∷ cell 0x69 2 (slot 0) (slot 1) ∷ [])

abbrev pub trie110 : Trie
trie110 =
    trie 3 0 (cell 0x72 0 (slot 0) (further 1) ∷ cell 0x73 0 (further 2) (slot 1) ∷ cell 0x72 1 (slot 2) (slot 3) ∷ [])

abbrev pub trie111 : Trie
trie111 =
    trie 3 0 (cell 0x72 0 (slot 0) (further 1) ∷ cell 0x73 0 (further 2) (slot 3) ∷ cell 0x72 1 (slot 2) (slot 3) ∷ [])

abbrev pub trie112 : Trie
trie112 =
    trie 5 0 (cell 0x62 0 (further 1) (slot 2) ∷ cell 0x61 1 (further 2) (slot 2) ∷ cell 0x61 2 (further 3) (slot 2)
    ∷ cell 0x62 3 (further 4) (slot 1) ∷ cell 0x61 4 (slot 0) (slot 1) ∷ [])

abbrev pub trie113 : Trie
trie113 =
    trie 5 0 (cell 0x62 0 (further 1) (slot 1) ∷ cell 0x61 1 (further 2) (slot 1) ∷ cell 0x61 2 (further 3) (slot 1)
    ∷ cell 0x62 3 (further 4) (slot 1) ∷ cell 0x61 4 (slot 0) (slot 1) ∷ [])

abbrev pub trie114 : Trie
trie114 =
    trie 17 0 (cell 0x69 0 (further 1) (slot 1) ∷ cell 0x6F 1 (further 2) (slot 1) ∷ cell 0x6E 2 (further 3) (slot 1)
    ∷ cell 0x6F 3 (further 4) (slot 1) ∷ cell 0x69 4 (further 5) (slot 1) ∷ cell 0x69 5 (further 6) (slot 1)
    ∷ cell 0x6E 6 (further 7) (slot 1) ∷ cell 0x6F 7 (further 8) (slot 1) ∷ cell 0x6E 8 (further 9) (slot 1)
    ∷ cell 0x6E 9 (further 10) (slot 1) ∷ cell 0x69 10 (further 11) (slot 1) ∷ cell 0x20 11 (slot 0) (further 12)
    ∷ cell 0x6E 11 (further 13) (slot 3) ∷ cell 0x69 12 (further 14) (slot 3) ∷ cell 0x69 13 (further 15) (slot 3)
    ∷ cell 0x69 14 (further 16) (slot 3) ∷ cell 0x69 15 (slot 2) (slot 3) ∷ [])

abbrev pub trie115 : Trie
trie115 =
    trie 16 0 (cell 0x69 0 (further 1) (slot 1) ∷ cell 0x6F 1 (further 2) (slot 1) ∷ cell 0x6E 2 (further 3) (slot 1)
    ∷ cell 0x6F 3 (further 4) (slot 1) ∷ cell 0x69 4 (further 5) (slot 1) ∷ cell 0x69 5 (further 6) (slot 1)
    ∷ cell 0x6E 6 (further 7) (slot 1) ∷ cell 0x6F 7 (further 8) (slot 1) ∷ cell 0x6E 8 (further 9) (slot 1)
    ∷ cell 0x6E 9 (further 10) (slot 1) ∷ cell 0x69 10 (further 11) (slot 1) ∷ cell 0x6E 11 (further 12) (slot 3)
    ∷ cell 0x69 12 (further 13) (slot 3) ∷ cell 0x69 13 (further 14) (slot 3) ∷ cell 0x69 14 (further 15) (slot 3)
    ∷ cell 0x69 15 (slot 0) (slot 3) ∷ [])

abbrev pub trie116 : Trie
trie116 =
    trie 5 0 (cell 0x62 0 (further 1) (slot 1) ∷ cell 0x62 1 (further 4) (slot 1) ∷ cell 0x20 1 (slot 0) (slot 3)
    ∷ cell 0x20 2 (slot 2) (slot 1) ∷ cell 0x61 1 (further 2) (further 3) ∷ [])

abbrev pub trie117 : Trie
trie117 =
    trie 3 0 (cell 0x6E 0 (further 1) (slot 1) ∷ cell 0x69 0 (slot 0) (further 2) ∷ cell 0x6E 1 (slot 2) (slot 3) ∷ [])

abbrev pub trie118 : Trie
trie118 =
    trie 2 0 (cell 0x69 0 (slot 0) (further 1) ∷ cell 0x6E 0 (slot 2) (slot 1) ∷ [])

abbrev pub trie119 : Trie
trie119 =
    trie 6 0 (cell 0x21 0 (further 1) (slot 2) ∷ cell 0x7D 1 (further 2) (slot 2) ∷ cell 0x21 2 (further 3) (slot 2)
    ∷ cell 0x21 3 (further 4) (slot 2) ∷ cell 0x20 4 (slot 0) (further 5) ∷ cell 0x21 4 (slot 1) (slot 2) ∷ [])

abbrev pub trie120 : Trie
trie120 =
    trie 5 0 (cell 0x62 0 (further 4) (slot 1) ∷ cell 0x62 1 (further 2) (slot 1) ∷ cell 0x20 2 (slot 2) (slot 1)
    ∷ cell 0x20 1 (slot 3) (further 1) ∷ cell 0x61 0 (slot 0) (further 3) ∷ [])

abbrev pub trie121 : Trie
trie121 =
    trie 6 0 (cell 0x69 0 (further 2) (slot 1) ∷ cell 0x69 2 (further 5) (slot 1) ∷ cell 0x69 1 (further 1) (slot 1)
    ∷ cell 0x20 4 (slot 0) (slot 3) ∷ cell 0x69 3 (slot 2) (slot 1) ∷ cell 0x20 3 (further 3) (further 4) ∷ [])

abbrev pub trie122 : Trie
trie122 =
    trie 6 0 (cell 0x69 0 (further 1) (slot 1) ∷ cell 0x69 1 (further 2) (slot 1) ∷ cell 0x69 2 (further 3) (slot 1)
    ∷ cell 0x20 3 (further 4) (further 5) ∷ cell 0x20 4 (slot 0) (slot 3) ∷ cell 0x69 3 (slot 3) (slot 1) ∷ [])

abbrev pub trie123 : Trie
trie123 =
    trie 3 0 (cell 0x62 0 (further 2) (slot 1) ∷ cell 0x61 2 (slot 0) (slot 1) ∷ cell 0x61 1 (further 1) (slot 1) ∷ [])

abbrev pub trie124 : Trie
trie124 =
    trie 2 0 (cell 0x62 0 (further 1) (slot 1) ∷ cell 0x20 1 (slot 0) (slot 1) ∷ [])

abbrev pub trie125 : Trie
trie125 =
    trie 5 0 (cell 0x69 0 (further 1) (slot 1) ∷ cell 0x69 1 (further 2) (slot 1) ∷ cell 0x6E 2 (further 3) (slot 1)
    ∷ cell 0x69 3 (further 4) (slot 1) ∷ cell 0x69 4 (slot 0) (slot 1) ∷ [])

abbrev pub trie126 : Trie
trie126 =
    trie 2 0 (cell 0x21 0 (further 1) (slot 1) ∷ cell 0x21 1 (slot 0) (slot 2) ∷ [])

abbrev pub trie127 : Trie
trie127 =
    trie 2 0 (cell 0x6F 0 (further 1) (slot 1) ∷ cell 0x20 1 (slot 0) (slot 256) ∷ [])

abbrev pub trie128 : Trie
trie128 =
    trie 2 0 (cell 0x61 0 (further 1) (slot 1) ∷ cell 0x20 1 (slot 0) (slot 2) ∷ [])

abbrev pub trie129 : Trie
trie129 =
    trie 3 0 (cell 0x72 0 (further 1) (slot 1) ∷ cell 0x74 1 (further 2) (slot 1) ∷ cell 0x20 2 (slot 0) (slot 1) ∷ [])

abbrev pub trie130 : Trie
trie130 =
    trie 5 0 (cell 0x62 0 (further 1) (slot 1) ∷ cell 0x61 1 (further 2) (slot 1) ∷ cell 0x61 2 (further 3) (slot 1)
    ∷ cell 0x61 3 (further 4) (slot 1) ∷ cell 0x61 4 (slot 0) (slot 1) ∷ [])

abbrev pub trie131 : Trie
trie131 =
    trie 6 0 (cell 0x69 0 (further 1) (slot 1) ∷ cell 0x69 1 (further 2) (slot 1) ∷ cell 0x6F 2 (further 3) (slot 1)
    ∷ cell 0x69 3 (further 4) (slot 1) ∷ cell 0x6F 4 (further 5) (slot 1) ∷ cell 0x20 5 (slot 0) (slot 1) ∷ [])

abbrev pub trie132 : Trie
trie132 =
    trie 4 0 (cell 0x6F 0 (further 1) (slot 1) ∷ cell 0x6F 1 (further 2) (slot 1) ∷ cell 0x6E 2 (further 3) (slot 1)
    ∷ cell 0x6E 3 (slot 0) (slot 1) ∷ [])

abbrev pub trie133 : Trie
trie133 =
    trie 2 0 (cell 0x21 0 (further 1) (slot 1) ∷ cell 0x61 1 (slot 0) (slot 1) ∷ [])

abbrev pub trie134 : Trie
trie134 =
    trie 4 0 (cell 0x6E 0 (further 2) (slot 1) ∷ cell 0x6F 2 (further 3) (slot 1) ∷ cell 0x6E 1 (further 1) (slot 1)
    ∷ cell 0x69 3 (slot 0) (slot 1) ∷ [])

abbrev pub trie135 : Trie
trie135 =
    trie 2 0 (cell 0x62 0 (further 1) (slot 1) ∷ cell 0x61 1 (slot 0) (slot 1) ∷ [])

abbrev pub trie136 : Trie
trie136 =
    trie 5 0 (cell 0x72 0 (further 1) (slot 1) ∷ cell 0x61 1 (further 2) (slot 1) ∷ cell 0x74 2 (further 3) (slot 1)
    ∷ cell 0x65 3 (further 4) (slot 1) ∷ cell 0x32 4 (slot 0) (slot 1) ∷ [])

abbrev pub trie137 : Trie
trie137 =
    trie 5 0 (cell 0x72 0 (further 1) (slot 2) ∷ cell 0x61 1 (further 2) (slot 2) ∷ cell 0x74 2 (further 3) (slot 1)
    ∷ cell 0x65 3 (further 4) (slot 1) ∷ cell 0x32 4 (slot 0) (slot 1) ∷ [])

abbrev pub trie138 : Trie
trie138 =
    trie 2 0 (cell 0x61 0 (further 1) (slot 1) ∷ cell 0x20 1 (slot 0) (slot 1) ∷ [])

abbrev pub trie139 : Trie
trie139 =
    trie 3 0 (cell 0x61 0 (further 1) (slot 1) ∷ cell 0x62 1 (further 2) (slot 1) ∷ cell 0x20 2 (slot 0) (slot 1) ∷ [])

abbrev pub trie140 : Trie
trie140 =
    trie 2 0 (cell 0x72 0 (further 1) (slot 1) ∷ cell 0x32 1 (slot 0) (slot 1) ∷ [])

abbrev pub trie141 : Trie
trie141 =
    trie 1 0 (cell 0x63 0 (slot 0) (slot 1) ∷ [])

abbrev pub trie142 : Trie
trie142 =
    trie 3 0 (cell 0x6F 0 (further 1) (slot 1) ∷ cell 0x69 0 (further 2) (slot 2) ∷ cell 0x20 1 (slot 0) (slot 3) ∷ [])

abbrev pub trie143 : Trie
trie143 =
    trie 3 0 (cell 0x69 0 (further 1) (further 2) ∷ cell 0x20 1 (slot 0) (slot 3) ∷ cell 0x6F 0 (slot 3) (slot 1) ∷ [])

abbrev pub trie144 : Trie
trie144 =
    trie 1 0 (cell 0x6F 0 (slot 0) (slot 1) ∷ [])

abbrev pub trie145 : Trie
trie145 =
    trie 3 0 (cell 0x69 0 (further 1) (further 2) ∷ cell 0x20 1 (slot 0) (slot 3) ∷ cell 0x6F 0 (slot 2) (slot 1) ∷ [])

abbrev pub trie146 : Trie
trie146 =
    trie 10 0 (cell 0x6F 0 (further 1) (further 4) ∷ cell 0x69 0 (further 2) (slot 2) ∷ cell 0x20 1 (further 3) (slot 3)
    ∷ cell 0x61 0 (further 8) (further 5) ∷ cell 0x74 0 (slot 1) (slot 5) ∷ cell 0x68 0 (further 6) (slot 6)
    ∷ cell 0x66 0 (further 9) (further 7) ∷ cell 0x65 1 (slot 7) (slot 8) ∷ cell 0x72 1 (slot 0) (slot 9) ∷ cell 0x62 0
    (slot 4) (slot 10) ∷ [])

abbrev pub trie147 : Trie
trie147 =
    trie 10 0 (cell 0x68 0 (further 1) (further 6) ∷ cell 0x62 0 (further 2) (further 4) ∷ cell 0x61 0 (further 3)
    (slot 4) ∷ cell 0x72 1 (slot 0) (slot 9) ∷ cell 0x66 0 (slot 10) (further 5) ∷ cell 0x65 1 (slot 7) (slot 8)
    ∷ cell 0x6F 0 (further 7) (further 9) ∷ cell 0x69 0 (further 8) (slot 2) ∷ cell 0x20 1 (slot 6) (slot 3)
    ∷ cell 0x74 0 (slot 1) (slot 5) ∷ [])

abbrev pub trie148 : Trie
trie148 =
    trie 256 0 (cell 0x5B 0 (further 1) (further 139) ∷ cell 0x38 0 (further 2) (further 70) ∷ cell 0x28 0 (further 3)
    (further 25) ∷ cell 0x21 1 (further 4) (slot 4) ∷ cell 0x7D 2 (further 5) (slot 4) ∷ cell 0x20 3 (further 6)
    (slot 4) ∷ cell 0x20 4 (further 7) (slot 4) ∷ cell 0x21 5 (further 8) (slot 4) ∷ cell 0x61 6 (further 9) (slot 4)
    ∷ cell 0x61 7 (further 10) (slot 4) ∷ cell 0x61 8 (further 11) (slot 4) ∷ cell 0x7D 9 (further 12) (slot 4)
    ∷ cell 0x7D 10 (further 13) (slot 4) ∷ cell 0x21 11 (further 14) (slot 4) ∷ cell 0x20 12 (further 15) (slot 4)
    ∷ cell 0x61 13 (further 16) (slot 4) ∷ cell 0x21 14 (further 17) (slot 4) ∷ cell 0x61 15 (further 18) (slot 4)
    ∷ cell 0x7D 16 (further 19) (slot 4) ∷ cell 0x61 17 (further 20) (slot 4) ∷ cell 0x20 18 (further 21) (slot 4)
    ∷ cell 0x21 19 (further 22) (slot 4) ∷ cell 0x61 20 (further 23) (slot 4) ∷ cell 0x7D 21 (further 24) (slot 4)
    ∷ cell 0x61 22 (slot 3) (slot 4) ∷ cell 0x34 0 (further 26) (further 49) ∷ cell 0x20 1 (further 27) (slot 11)
    ∷ cell 0x21 2 (further 28) (slot 11) ∷ cell 0x20 3 (further 29) (slot 11) ∷ cell 0x61 4 (further 30) (slot 11)
    ∷ cell 0x7D 5 (further 31) (slot 11) ∷ cell 0x20 6 (further 32) (slot 11) ∷ cell 0x7D 7 (further 33) (slot 11)
    ∷ cell 0x20 8 (further 34) (slot 11) ∷ cell 0x21 9 (further 35) (slot 11) ∷ cell 0x20 10 (further 36) (slot 11)
    ∷ cell 0x7D 11 (further 37) (slot 11) ∷ cell 0x21 12 (further 38) (slot 11) ∷ cell 0x7D 13 (further 39) (slot 11)
    ∷ cell 0x20 14 (further 40) (slot 11) ∷ cell 0x61 15 (further 41) (slot 11) ∷ cell 0x7D 16 (further 42) (slot 11)
    ∷ cell 0x21 17 (further 43) (slot 11) ∷ cell 0x20 18 (further 44) (slot 11) ∷ cell 0x21 19 (further 45) (slot 11)
    ∷ cell 0x21 20 (further 46) (slot 11) ∷ cell 0x61 21 (further 47) (slot 11) ∷ cell 0x21 22 (further 48) (slot 11)
    ∷ cell 0x20 23 (slot 4) (slot 11) ∷ cell 0x61 1 (further 50) (slot 6) ∷ cell 0x20 2 (further 51) (slot 6)
    ∷ cell 0x61 3 (further 52) (slot 6) ∷ cell 0x21 4 (further 53) (slot 6) ∷ cell 0x20 5 (further 54) (slot 6)
    ∷ cell 0x20 6 (further 55) (slot 6) ∷ cell 0x21 7 (further 56) (slot 6) ∷ cell 0x61 8 (further 57) (slot 6)
    ∷ cell 0x20 9 (further 58) (slot 6) ∷ cell 0x61 10 (further 59) (slot 6) ∷ cell 0x20 11 (further 60) (slot 6)
    ∷ cell 0x61 12 (further 61) (slot 6) ∷ cell 0x20 13 (further 62) (slot 6) ∷ cell 0x61 14 (further 63) (slot 6)
    ∷ cell 0x61 15 (further 64) (slot 6) ∷ cell 0x61 16 (further 65) (slot 6) ∷ cell 0x20 17 (further 66) (slot 6)
    ∷ cell 0x61 18 (further 67) (slot 6) ∷ cell 0x61 19 (further 68) (slot 6) ∷ cell 0x7D 20 (further 69) (slot 6)
    ∷ cell 0x20 21 (slot 11) (slot 6) ∷ cell 0x39 0 (further 71) (further 94) ∷ cell 0x20 1 (further 72) (slot 7)
    ∷ cell 0x20 2 (further 73) (slot 7) ∷ cell 0x21 3 (further 74) (slot 7) ∷ cell 0x61 4 (further 75) (slot 7)
    ∷ cell 0x61 5 (further 76) (slot 7) ∷ cell 0x61 6 (further 77) (slot 7) ∷ cell 0x21 7 (further 78) (slot 7)
    ∷ cell 0x61 8 (further 79) (slot 7) ∷ cell 0x20 9 (further 80) (slot 7) ∷ cell 0x20 10 (further 81) (slot 7)
    ∷ cell 0x61 11 (further 82) (slot 7) ∷ cell 0x21 12 (further 83) (slot 7) ∷ cell 0x7D 13 (further 84) (slot 7)
    ∷ cell 0x21 14 (further 85) (slot 7) ∷ cell 0x7D 15 (further 86) (slot 7) ∷ cell 0x21 16 (further 87) (slot 7)
    ∷ cell 0x20 17 (further 88) (slot 7) ∷ cell 0x61 18 (further 89) (slot 7) ∷ cell 0x61 19 (further 90) (slot 7)
    ∷ cell 0x61 20 (further 91) (slot 7) ∷ cell 0x61 21 (further 92) (slot 7) ∷ cell 0x21 22 (further 93) (slot 7)
    ∷ cell 0x7D 23 (slot 6) (slot 7) ∷ cell 0x49 0 (further 95) (further 116) ∷ cell 0x20 1 (further 96) (slot 10)
    ∷ cell 0x21 2 (further 97) (slot 10) ∷ cell 0x7D 3 (further 98) (slot 10) ∷ cell 0x21 4 (further 99) (slot 10)
    ∷ cell 0x7D 5 (further 100) (slot 10) ∷ cell 0x61 6 (further 101) (slot 10) ∷ cell 0x20 7 (further 102) (slot 10)
    ∷ cell 0x61 8 (further 103) (slot 10) ∷ cell 0x20 9 (further 104) (slot 10) ∷ cell 0x7D 10 (further 105) (slot 10)
    ∷ cell 0x20 11 (further 106) (slot 10) ∷ cell 0x20 12 (further 107) (slot 10) ∷ cell 0x20 13 (further 108) (slot 10)
    ∷ cell 0x20 14 (further 109) (slot 10) ∷ cell 0x21 15 (further 110) (slot 10) ∷ cell 0x61 16 (further 111) (slot 10)
    ∷ cell 0x7D 17 (further 112) (slot 10) ∷ cell 0x20 18 (further 113) (slot 10) ∷ cell 0x7D 19 (further 114) (slot 10)
    ∷ cell 0x21 20 (further 115) (slot 10) ∷ cell 0x20 21 (slot 7) (slot 10) ∷ cell 0x7D 1 (further 117) (slot 9)
    ∷ cell 0x21 2 (further 118) (slot 9) ∷ cell 0x61 3 (further 119) (slot 9) ∷ cell 0x61 4 (further 120) (slot 9)
    ∷ cell 0x7D 5 (further 121) (slot 9) ∷ cell 0x20 6 (further 122) (slot 9) ∷ cell 0x21 7 (further 123) (slot 9)
    ∷ cell 0x7D 8 (further 124) (slot 9) ∷ cell 0x7D 9 (further 125) (slot 9) ∷ cell 0x7D 10 (further 126) (slot 9)
    ∷ cell 0x7D 11 (further 127) (slot 9) ∷ cell 0x61 12 (further 128) (slot 9) ∷ cell 0x20 13 (further 129) (slot 9)
    ∷ cell 0x7D 14 (further 130) (slot 9) ∷ cell 0x21 15 (further 131) (slot 9) ∷ cell 0x21 16 (further 132) (slot 9)
    ∷ cell 0x21 17 (further 133) (slot 9) ∷ cell 0x61 18 (further 134) (slot 9) ∷ cell 0x7D 19 (further 135) (slot 9)
    ∷ cell 0x20 20 (further 136) (slot 9) ∷ cell 0x7D 21 (further 137) (slot 9) ∷ cell 0x7D 22 (further 138) (slot 9)
    ∷ cell 0x21 23 (slot 10) (slot 9) ∷ cell 0x68 0 (further 140) (further 209) ∷ cell 0x5E 0 (further 141)
    (further 164) ∷ cell 0x61 1 (further 142) (slot 8) ∷ cell 0x7D 2 (further 143) (slot 8) ∷ cell 0x7D 3 (further 144)
    (slot 8) ∷ cell 0x20 4 (further 145) (slot 8) ∷ cell 0x20 5 (further 146) (slot 8) ∷ cell 0x21 6 (further 147)
    (slot 8) ∷ cell 0x7D 7 (further 148) (slot 8) ∷ cell 0x61 8 (further 149) (slot 8) ∷ cell 0x7D 9 (further 150)
    (slot 8) ∷ cell 0x20 10 (further 151) (slot 8) ∷ cell 0x61 11 (further 152) (slot 8) ∷ cell 0x20 12 (further 153)
    (slot 8) ∷ cell 0x7D 13 (further 154) (slot 8) ∷ cell 0x20 14 (further 155) (slot 8) ∷ cell 0x21 15 (further 156)
    (slot 8) ∷ cell 0x20 16 (further 157) (slot 8) ∷ cell 0x61 17 (further 158) (slot 8) ∷ cell 0x61 18 (further 159)
    (slot 8) ∷ cell 0x21 19 (further 160) (slot 8) ∷ cell 0x7D 20 (further 161) (slot 8) ∷ cell 0x61 21 (further 162)
    (slot 8) ∷ cell 0x21 22 (further 163) (slot 8) ∷ cell 0x20 23 (slot 9) (slot 8) ∷ cell 0x67 0 (further 165)
    (further 188) ∷ cell 0x20 1 (further 166) (slot 2) ∷ cell 0x20 2 (further 167) (slot 2) ∷ cell 0x21 3 (further 168)
    (slot 2) ∷ cell 0x7D 4 (further 169) (slot 2) ∷ cell 0x21 5 (further 170) (slot 2) ∷ cell 0x61 6 (further 171)
    (slot 2) ∷ cell 0x61 7 (further 172) (slot 2) ∷ cell 0x21 8 (further 173) (slot 2) ∷ cell 0x7D 9 (further 174)
    (slot 2) ∷ cell 0x21 10 (further 175) (slot 2) ∷ cell 0x21 11 (further 176) (slot 2) ∷ cell 0x61 12 (further 177)
    (slot 2) ∷ cell 0x7D 13 (further 178) (slot 2) ∷ cell 0x61 14 (further 179) (slot 2) ∷ cell 0x7D 15 (further 180)
    (slot 2) ∷ cell 0x61 16 (further 181) (slot 2) ∷ cell 0x7D 17 (further 182) (slot 2) ∷ cell 0x20 18 (further 183)
    (slot 2) ∷ cell 0x20 19 (further 184) (slot 2) ∷ cell 0x7D 20 (further 185) (slot 2) ∷ cell 0x20 21 (further 186)
    (slot 2) ∷ cell 0x20 22 (further 187) (slot 2) ∷ cell 0x7D 23 (slot 8) (slot 2) ∷ cell 0x20 1 (further 189) (slot 1)
    ∷ cell 0x20 2 (further 190) (slot 1) ∷ cell 0x20 3 (further 191) (slot 1) ∷ cell 0x7D 4 (further 192) (slot 1)
    ∷ cell 0x61 5 (further 193) (slot 1) ∷ cell 0x7D 6 (further 194) (slot 1) ∷ cell 0x61 7 (further 195) (slot 1)
    ∷ cell 0x61 8 (further 196) (slot 1) ∷ cell 0x20 9 (further 197) (slot 1) ∷ cell 0x20 10 (further 198) (slot 1)
    ∷ cell 0x61 11 (further 199) (slot 1) ∷ cell 0x7D 12 (further 200) (slot 1) ∷ cell 0x21 13 (further 201) (slot 1)
    ∷ cell 0x21 14 (further 202) (slot 1) ∷ cell 0x7D 15 (further 203) (slot 1) ∷ cell 0x7D 16 (further 204) (slot 1)
    ∷ cell 0x20 17 (further 205) (slot 1) ∷ cell 0x20 18 (further 206) (slot 1) ∷ cell 0x20 19 (further 207) (slot 1)
    ∷ cell 0x21 20 (further 208) (slot 1) ∷ cell 0x7D 21 (slot 2) (slot 1) ∷ cell 0x6D 0 (further 210) (further 233)
    ∷ cell 0x21 1 (further 211) (slot 5) ∷ cell 0x21 2 (further 212) (slot 5) ∷ cell 0x7D 3 (further 213) (slot 5)
    ∷ cell 0x7D 4 (further 214) (slot 5) ∷ cell 0x20 5 (further 215) (slot 5) ∷ cell 0x20 6 (further 216) (slot 5)
    ∷ cell 0x21 7 (further 217) (slot 5) ∷ cell 0x21 8 (further 218) (slot 5) ∷ cell 0x20 9 (further 219) (slot 5)
    ∷ cell 0x7D 10 (further 220) (slot 5) ∷ cell 0x61 11 (further 221) (slot 5) ∷ cell 0x21 12 (further 222) (slot 5)
    ∷ cell 0x21 13 (further 223) (slot 5) ∷ cell 0x61 14 (further 224) (slot 5) ∷ cell 0x61 15 (further 225) (slot 5)
    ∷ cell 0x21 16 (further 226) (slot 5) ∷ cell 0x61 17 (further 227) (slot 5) ∷ cell 0x20 18 (further 228) (slot 5)
    ∷ cell 0x7D 19 (further 229) (slot 5) ∷ cell 0x20 20 (further 230) (slot 5) ∷ cell 0x61 21 (further 231) (slot 5)
    ∷ cell 0x61 22 (further 232) (slot 5) ∷ cell 0x20 23 (slot 1) (slot 5) ∷ cell 0x70 0 (further 234) (slot 0)
    ∷ cell 0x7D 1 (further 235) (slot 0) ∷ cell 0x7D 2 (further 236) (slot 0) ∷ cell 0x21 3 (further 237) (slot 0)
    ∷ cell 0x7D 4 (further 238) (slot 0) ∷ cell 0x21 5 (further 239) (slot 0) ∷ cell 0x21 6 (further 240) (slot 0)
    ∷ cell 0x7D 7 (further 241) (slot 0) ∷ cell 0x20 8 (further 242) (slot 0) ∷ cell 0x21 9 (further 243) (slot 0)
    ∷ cell 0x21 10 (further 244) (slot 0) ∷ cell 0x20 11 (further 245) (slot 0) ∷ cell 0x61 12 (further 246) (slot 0)
    ∷ cell 0x21 13 (further 247) (slot 0) ∷ cell 0x7D 14 (further 248) (slot 0) ∷ cell 0x21 15 (further 249) (slot 0)
    ∷ cell 0x61 16 (further 250) (slot 0) ∷ cell 0x61 17 (further 251) (slot 0) ∷ cell 0x7D 18 (further 252) (slot 0)
    ∷ cell 0x20 19 (further 253) (slot 0) ∷ cell 0x21 20 (further 254) (slot 0) ∷ cell 0x61 21 (further 255) (slot 0)
    ∷ cell 0x61 22 (slot 5) (slot 0) ∷ [])

abbrev pub legals : List Case
legals =
    legal (text "aaaaaaaaaaaaaaaaaaaaaaaa" ∷ []) true
    ∷ legal [] false
    ∷ legal (text "aaaaaaaaaaaaaaaaaaaaaaaaa" ∷ []) false
    ∷ legal (text "}" ∷ []) true
    ∷ legal (byte 0x7E ∷ []) false
    ∷ legal (text "!" ∷ []) true
    ∷ legal (byte 0x20 ∷ []) false
    ∷ legal (text "a" ∷ byte 0x20 ∷ text "b" ∷ []) true
    ∷ legal (byte 0x20 ∷ text "a" ∷ []) false
    ∷ legal (text "a" ∷ byte 0x20 ∷ []) false
    ∷ legal (text "a" ∷ blanks 2 ∷ text "b" ∷ []) true
    ∷ legal (text "GDP" ∷ byte 0x20 ∷ text "real" ∷ []) true
    ∷ legal (byte 0x20 ∷ text "a" ∷ byte 0x20 ∷ text "b" ∷ []) false
    ∷ legal (text "xKb" ∷ byte 0x22 ∷ byte 0x00 ∷ []) false
    ∷ legal [] false
    ∷ legal [] false
    ∷ legal (text "srtt" ∷ []) true
    ∷ legal (text "b" ∷ []) true
    ∷ legal (text "7c" ∷ byte 0x00 ∷ text "9dTBiK" ∷ []) false
    ∷ legal (byte 0x7F ∷ text "(T6xKT" ∷ byte 0x22 ∷ []) false
    ∷ legal (text "aaaaaaaaaaaaaaaaaaaaaaaaa" ∷ []) false
    ∷ legal (text "a" ∷ []) true
    ∷ legal (text "ii" ∷ []) true
    ∷ legal (text "!" ∷ []) true
    ∷ legal (text "aaaaaaaaaaaaaaaaaaaaaaaaa" ∷ []) false
    ∷ legal (text "no" ∷ []) true
    ∷ legal (text "L'h>JD" ∷ byte 0xA1 ∷ []) false
    ∷ legal (text "aaaaaaaaaaaaaaaaaaaaaaaaa" ∷ []) false ∷ []

abbrev pub insides : List Case
insides =
    inside (text "yxzz" ∷ []) (blanks 4 ∷ []) false
    ∷ inside (text "i" ∷ []) (text "!!}!" ∷ blanks 2 ∷ text "!}}" ∷ byte 0x20 ∷ text "}!!" ∷ []) false
    ∷ inside (text "strrr" ∷ []) (text "xF" ∷ []) true
    ∷ inside (text "srrrs" ∷ []) (text "}}}" ∷ []) true
    ∷ inside (text "n" ∷ []) (blanks 16 ∷ []) false
    ∷ inside (text "}" ∷ []) (text "fXQ|" ∷ []) false
    ∷ inside (text "!" ∷ []) (text "!" ∷ byte 0x20 ∷ []) true
    ∷ inside (text "rs" ∷ []) (byte 0x20 ∷ []) false
    ∷ inside (text "y" ∷ []) (text "!!}}!" ∷ byte 0x20 ∷ text "!" ∷ byte 0x20 ∷ text "!" ∷ []) false
    ∷ inside (text "sr" ∷ []) (text "s" ∷ blanks 2 ∷ []) false
    ∷ inside (text "r" ∷ []) (text "}!" ∷ []) true
    ∷ inside (text "aaa" ∷ []) (byte 0x20 ∷ text "}" ∷ blanks 2 ∷ text "}!}!!}!" ∷ byte 0x20 ∷ []) false
    ∷ inside (text "rs" ∷ []) (text "t" ∷ []) true
    ∷ inside (text "onoo" ∷ []) (text "o" ∷ byte 0x20 ∷ text "y" ∷ []) false
    ∷ inside (text "!!}!!" ∷ []) (text "!" ∷ []) true
    ∷ inside (text "aaa" ∷ []) (text "b" ∷ blanks 2 ∷ []) true
    ∷ inside (text "io" ∷ []) (text "nnooonnn" ∷ []) true
    ∷ inside (text "io" ∷ []) (text "ng" ∷ []) true ∷ []

abbrev pub orders : List Case
orders =
    ordered (blanks 8 ∷ []) (text "a" ∷ blanks 12 ∷ []) true
    ∷ ordered (text "}!!" ∷ []) (text "!!!}" ∷ []) false
    ∷ ordered (text "n" ∷ blanks 3 ∷ []) (text "i" ∷ []) false
    ∷ ordered (blanks 2 ∷ text "}!" ∷ []) (text "i" ∷ blanks 3 ∷ []) true
    ∷ ordered (text "!" ∷ []) (blanks 2 ∷ []) false
    ∷ ordered [] (text "xzx" ∷ blanks 18 ∷ text "p" ∷ []) false
    ∷ ordered (text "b" ∷ blanks 2 ∷ []) (text "a" ∷ []) false
    ∷ ordered (text "yzx" ∷ blanks 20 ∷ []) (text "y" ∷ []) true
    ∷ ordered (text "!" ∷ blanks 2 ∷ []) [] true
    ∷ ordered (text "rrr" ∷ []) (text "rrrr" ∷ []) false
    ∷ ordered (text "^" ∷ []) (text "}" ∷ []) true
    ∷ ordered (text "yz" ∷ []) [] true
    ∷ ordered (text "tss" ∷ blanks 20 ∷ text "3" ∷ []) (text "}}!!" ∷ []) true
    ∷ ordered (text "}" ∷ []) (text "}!aX" ∷ []) false
    ∷ ordered (text "oo" ∷ []) (text "oo" ∷ []) true
    ∷ ordered [] [] true ∷ []

abbrev pub strings : List Case
strings =
    splits (text "io" ∷ []) (text "nin" ∷ []) (text "i" ∷ [])
    ∷ splits (text "yx" ∷ []) (text "yxxxyz" ∷ []) (text "yx" ∷ byte 0x20 ∷ [])
    ∷ splits (text "b" ∷ []) (text "ba" ∷ []) (text "b" ∷ byte 0x20 ∷ [])
    ∷ splits (text "!!" ∷ []) (text "!!!" ∷ []) (text "!!" ∷ byte 0x20 ∷ [])
    ∷ splits (text "a" ∷ []) (text "a}}" ∷ []) (text "a" ∷ byte 0x20 ∷ [])
    ∷ splits (text "a!" ∷ []) (text "aa" ∷ []) (text "a!" ∷ [])
    ∷ splits (text "b" ∷ []) (text "ba" ∷ []) (text "b" ∷ byte 0x20 ∷ [])
    ∷ splits (text "zx" ∷ []) (text "zxyx" ∷ []) (text "zx" ∷ byte 0x20 ∷ [])
    ∷ splits (text "ionnnioiiiononoononn" ∷ []) (text "ionnnioiiioon" ∷ []) (text "ionnnioiiion" ∷ [])
    ∷ splits (text "zyxzy" ∷ []) (text "zyy" ∷ []) (text "zyx" ∷ [])
    ∷ splits (text "}!!" ∷ []) (text "}!a!" ∷ []) (text "}!!" ∷ [])
    ∷ splits (text "rs" ∷ []) (text "st" ∷ []) (text "r" ∷ [])
    ∷ splits (text "n" ∷ []) (text "n" ∷ byte 0x20 ∷ text "i" ∷ []) (text "n" ∷ blanks 2 ∷ [])
    ∷ splits (text "i" ∷ []) (text "n" ∷ []) (text "i" ∷ [])
    ∷ splits (text "aaaa!a}!}}a}!!}}!!}!!!a}" ∷ []) (text "aaaa!a}!}}a}!!}}!!}!!a!" ∷ []) (text "aaaa!a}!}}a}!!}}!!}!!!"
    ∷ [])
    ∷ splits (text "xxxyxxxyyzzyyzyxxzxxy" ∷ []) (text "xxxyxxxyyzzyyzyxxzyx" ∷ []) (text "xxxyxxxyyzzyyzyxxzx" ∷ [])
    ∷ splits (text "iin" ∷ byte 0x20 ∷ text "i" ∷ byte 0x20 ∷ text "n" ∷ []) (text "iin" ∷ byte 0x20 ∷ text "n" ∷ [])
    (text "iin" ∷ byte 0x20 ∷ text "i" ∷ [])
    ∷ splits (text "nni" ∷ byte 0x20 ∷ text "i" ∷ blanks 4 ∷ text "in" ∷ blanks 4 ∷ text "inini" ∷ blanks 2 ∷ text "i"
    ∷ []) (text "nni" ∷ byte 0x20 ∷ text "i" ∷ blanks 4 ∷ text "in" ∷ blanks 4 ∷ text "inini" ∷ byte 0x20 ∷ text "n"
    ∷ []) (text "nni" ∷ byte 0x20 ∷ text "i" ∷ blanks 4 ∷ text "in" ∷ blanks 4 ∷ text "inini" ∷ blanks 2 ∷ [])
    ∷ splits (text "iini" ∷ []) (text "iini" ∷ blanks 2 ∷ text "n" ∷ []) (text "iini" ∷ blanks 3 ∷ [])
    ∷ splits (text "a}}!}" ∷ []) (text "a}}a" ∷ []) (text "a}}!" ∷ [])
    ∷ splits (text "zxyx" ∷ []) (text "zxyyy" ∷ []) (text "zxyx" ∷ [])
    ∷ splits (text "abbaa" ∷ []) (text "abbb" ∷ []) (text "abba" ∷ [])
    ∷ splits (text "a" ∷ byte 0x20 ∷ text "ab" ∷ []) (text "a" ∷ byte 0x20 ∷ text "b" ∷ byte 0x20 ∷ text "b" ∷ [])
    (text "a" ∷ byte 0x20 ∷ text "a" ∷ [])
    ∷ splits (text "a" ∷ byte 0x20 ∷ text "b" ∷ byte 0x20 ∷ text "a" ∷ byte 0x20 ∷ text "b" ∷ []) (text "a" ∷ byte 0x20
    ∷ text "b" ∷ byte 0x20 ∷ text "b" ∷ []) (text "a" ∷ byte 0x20 ∷ text "b" ∷ byte 0x20 ∷ text "a" ∷ []) ∷ []

abbrev pub arrangements : List Case
arrangements =
    arranged file0 (2 ∷ 1 ∷ 0 ∷ []) ((text "aaa" ∷ []) ∷ (text "aa" ∷ []) ∷ (text "a" ∷ []) ∷ [])
    ∷ arranged file1 (1 ∷ 0 ∷ []) ((text "a" ∷ []) ∷ [])
    ∷ arranged file2 (0 ∷ []) []
    ∷ arranged file3 (3 ∷ 0 ∷ 1 ∷ []) ((text "r" ∷ []) ∷ (text "sr" ∷ []) ∷ (text "s" ∷ []) ∷ [])
    ∷ arranged file4 (0 ∷ 2 ∷ 3 ∷ 1 ∷ []) ((text "n" ∷ []) ∷ (text "o" ∷ byte 0x20 ∷ []) ∷ (text "ooi" ∷ []) ∷
    (text "oo" ∷ []) ∷ (text "o" ∷ []) ∷ [])
    ∷ arranged file5 (2 ∷ 0 ∷ 1 ∷ 3 ∷ []) ((text "i" ∷ []) ∷ (text "ni" ∷ []) ∷ (text "n" ∷ []) ∷ [])
    ∷ arranged file6 (1 ∷ 0 ∷ 3 ∷ 2 ∷ []) ((text "!!" ∷ []) ∷ (text "!" ∷ []) ∷ (text "}!" ∷ []) ∷ (text "}" ∷ []) ∷ [])
    ∷ arranged file7 (3 ∷ 1 ∷ 2 ∷ 0 ∷ []) ((text "xy" ∷ []) ∷ (text "x" ∷ []) ∷ (text "y" ∷ []) ∷ []) ∷ []

abbrev pub agreements : List Case
agreements =
    agrees file8 trie0 true
    ∷ agrees file9 trie1 true
    ∷ agrees file10 trie2 false
    ∷ agrees file11 trie3 false
    ∷ agrees file12 trie4 false
    ∷ agrees file13 trie5 false
    ∷ agrees file14 trie6 false
    ∷ agrees file15 trie7 false
    ∷ agrees file16 trie8 false
    ∷ agrees file17 trie9 false
    ∷ agrees file18 trie10 true
    ∷ agrees file19 trie11 true
    ∷ agrees file20 trie12 true
    ∷ agrees file21 trie13 false
    ∷ agrees file22 trie14 false ∷ []

abbrev pub checkings : List Case
checkings =
    checks file23 (142, [])
    ∷ checks file24 (142, [])
    ∷ checks file25 (142, [])
    ∷ checks file26 (140, [])
    ∷ checks file27 (142, [])
    ∷ checks file28 (141, [])
    ∷ checks file29 (140, [])
    ∷ checks file30 (140, [])
    ∷ checks file31 (142, [])
    ∷ checks file32 (141, [])
    ∷ checks file33 (142, [])
    ∷ checks file34 (142, [])
    ∷ checks file35 (141, [])
    ∷ checks file36 (142, [])
    ∷ checks file37 (142, [])
    ∷ checks file38 (142, [])
    ∷ checks file39 (142, [])
    ∷ checks file40 (142, [])
    ∷ checks file41 (142, [])
    ∷ checks file42 (142, [])
    ∷ checks file43 (142, [])
    ∷ checks file44 (142, [])
    ∷ checks file45 (141, [])
    ∷ checks file46 (141, [])
    ∷ checks file47 (142, [])
    ∷ checks file48 (141, [])
    ∷ checks file49 (141, [])
    ∷ checks file50 (142, [])
    ∷ checks file51 (142, [])
    ∷ checks file52 (142, [])
    ∷ checks file53 (142, [])
    ∷ checks file54 (141, [])
    ∷ checks file55 (141, [])
    ∷ checks file56 (141, [])
    ∷ checks file57 (141, [])
    ∷ checks file58 (142, [])
    ∷ checks file59 (142, [])
    ∷ checks file60 (142, [])
    ∷ checks file61 (141, [])
    ∷ checks file62 (142, [])
    ∷ checks file63 (142, [])
    ∷ checks file64 (142, [])
    ∷ checks file65 (142, [])
    ∷ checks file66 (142, [])
    ∷ checks file67 (142, [])
    ∷ checks file68 (142, [])
    ∷ checks file69 (142, [])
    ∷ checks file70 (142, [])
    ∷ checks file71 (142, [])
    ∷ checks file72 (142, [])
    ∷ checks file73 (142, [])
    ∷ checks file74 (140, [])
    ∷ checks file75 (142, [])
    ∷ checks file76 (142, [])
    ∷ checks file77 (142, [])
    ∷ checks file34 (142, []) ∷ []

abbrev pub creatings : List Case
creatings =
    creates file78 1 2 2 (150, []) file79 trie15
    ∷ creates file80 1 3 3 (150, []) file81 trie15
    ∷ creates file82 1 3 3 (8, []) file82 trie15
    ∷ creates file78 2 2 2 (150, []) file74 trie15
    ∷ creates file83 2 3 3 (8, []) file83 trie15
    ∷ creates file78 0 2 2 (8, []) file78 trie15
    ∷ creates file84 3 2 2 (150, []) file85 trie15
    ∷ creates file78 3 2 2 (8, []) file78 trie15
    ∷ creates file84 2 2 2 (8, []) file84 trie15
    ∷ creates file78 4 2 2 (8, []) file78 trie15
    ∷ creates file78 257 2 2 (8, []) file78 trie15
    ∷ creates file86 1 1 1 (8, []) file86 trie15
    ∷ creates file87 1 2 0 (8, []) file87 trie15 ∷ []

abbrev pub recoverings : List Case
recoverings =
    recovers file88 2 (130, 3 ∷ []) file89
    ∷ recovers file90 2 (131, []) file90
    ∷ recovers file91 3 (8, []) file91
    ∷ recovers file92 2 (131, []) file92
    ∷ recovers file93 1 (130, 1 ∷ []) file94
    ∷ recovers file95 2 (130, 2 ∷ []) file96
    ∷ recovers file97 0 (112, 0 ∷ []) file97
    ∷ recovers file98 2 (2, []) file98
    ∷ recovers file99 2 (2, []) file99 ∷ []

abbrev pub rebuildings : List Case
rebuildings =
    rebuilds file100 (151, []) trie16
    ∷ rebuilds file101 (151, []) trie17
    ∷ rebuilds file102 (151, []) trie18
    ∷ rebuilds file103 (151, []) trie19
    ∷ rebuilds file104 (151, []) trie20
    ∷ rebuilds file105 (3, []) trie15
    ∷ rebuilds file106 (151, []) trie21
    ∷ rebuilds file107 (151, []) trie22
    ∷ rebuilds file108 (2, []) trie15 ∷ []

abbrev pub lookings : List Case
lookings =
    looks_up file109 trie23 (text "babb" ∷ []) (101, [])
    ∷ looks_up file110 trie24 (text "iiiniin" ∷ blanks 6 ∷ text "nnnn" ∷ blanks 3 ∷ text "n" ∷ []) (101, [])
    ∷ looks_up file111 trie25 (text "}!!!}!" ∷ []) (100, 334 ∷ 0 ∷ [])
    ∷ looks_up file112 trie26 (text "i" ∷ byte 0x20 ∷ text "i" ∷ []) (100, 908 ∷ 0 ∷ [])
    ∷ looks_up file113 trie27 (text "zxyzyzzyzyxzxyzxxzxzyzxx" ∷ []) (100, 138 ∷ 18446744073709551615 ∷ [])
    ∷ looks_up file114 trie28 (text "}" ∷ []) (100, 12650353296101703727 ∷ 0 ∷ [])
    ∷ looks_up file115 trie29 (text "!!a" ∷ []) (101, [])
    ∷ looks_up file116 trie30 (text "oni" ∷ []) (100, 214 ∷ 0 ∷ [])
    ∷ looks_up file117 trie31 (text "yz" ∷ []) (4, 0 ∷ [])
    ∷ looks_up file118 trie32 (text "i" ∷ byte 0x20 ∷ text "n" ∷ byte 0x20 ∷ text "n" ∷ byte 0x20 ∷ text "i" ∷ byte 0x20
    ∷ text "nnnnn" ∷ blanks 2 ∷ text "n" ∷ blanks 3 ∷ text "in" ∷ []) (4, 19 ∷ [])
    ∷ looks_up file119 trie33 (text "aaaaaaaaaaaaaaaaaaaaaaaaa" ∷ []) (1, [])
    ∷ looks_up file120 trie34 (text "!" ∷ []) (100, 10442430560279788023 ∷ 0 ∷ [])
    ∷ looks_up file121 trie35 (text "in" ∷ byte 0x20 ∷ text "i" ∷ []) (4, 255 ∷ [])
    ∷ looks_up file122 trie36 (text "bbb" ∷ []) (4, 255 ∷ [])
    ∷ looks_up file123 trie37 (text "}a}a!}" ∷ []) (4, 4 ∷ [])
    ∷ looks_up file124 trie38 (text "!" ∷ []) (100, 709 ∷ 0 ∷ [])
    ∷ looks_up file125 trie39 (text "!}}}!}!}!!!!!}}!}}}!!!!}" ∷ []) (2, [])
    ∷ looks_up file126 trie40 (text "aaab" ∷ []) (4, 2 ∷ [])
    ∷ looks_up file127 trie41 (text "ioii" ∷ []) (4, 255 ∷ [])
    ∷ looks_up file128 trie15 (text "tssrs" ∷ []) (4, 4 ∷ [])
    ∷ looks_up file129 trie42 (text "!!}" ∷ []) (4, 2 ∷ [])
    ∷ looks_up file130 trie43 (text "onio" ∷ []) (2, [])
    ∷ looks_up file131 trie44 (text "bbbbbb" ∷ []) (4, 255 ∷ [])
    ∷ looks_up file132 trie45 (text "a}a!}!" ∷ []) (2, [])
    ∷ looks_up file133 trie15 (text "b" ∷ byte 0x20 ∷ text "a" ∷ []) (4, 0 ∷ []) ∷ []

abbrev pub wrongs : List Case
wrongs =
    looks_up file134 trie46 (text "rate1" ∷ []) (100, 1 ∷ 0 ∷ [])
    ∷ looks_up file134 trie46 (text "rate3" ∷ []) (100, 1 ∷ 0 ∷ [])
    ∷ looks_up file134 trie46 (text "s" ∷ []) (4, 255 ∷ [])
    ∷ agrees file134 trie46 false
    ∷ looks_up file134 trie47 (text "rate1" ∷ []) (4, 255 ∷ [])
    ∷ looks_up file134 trie47 (text "rate3" ∷ []) (100, 1 ∷ 0 ∷ [])
    ∷ looks_up file134 trie47 (text "s" ∷ []) (101, [])
    ∷ agrees file134 trie47 false
    ∷ looks_up file134 trie48 (text "rate1" ∷ []) (4, 255 ∷ [])
    ∷ looks_up file134 trie48 (text "rate3" ∷ []) (100, 1 ∷ 0 ∷ [])
    ∷ looks_up file134 trie48 (text "s" ∷ []) (101, [])
    ∷ agrees file134 trie48 false
    ∷ looks_up file134 trie49 (text "rate1" ∷ []) (4, 4 ∷ [])
    ∷ looks_up file134 trie49 (text "rate3" ∷ []) (100, 1 ∷ 0 ∷ [])
    ∷ looks_up file134 trie49 (text "s" ∷ []) (101, [])
    ∷ agrees file134 trie49 false
    ∷ looks_up file134 trie50 (text "rate1" ∷ []) (100, 1 ∷ 0 ∷ [])
    ∷ looks_up file134 trie50 (text "rate3" ∷ []) (100, 1 ∷ 0 ∷ [])
    ∷ looks_up file134 trie50 (text "s" ∷ []) (101, [])
    ∷ agrees file134 trie50 false
    ∷ looks_up file134 trie51 (text "rate1" ∷ []) (4, 255 ∷ [])
    ∷ looks_up file134 trie51 (text "rate3" ∷ []) (100, 1 ∷ 0 ∷ [])
    ∷ looks_up file134 trie51 (text "s" ∷ []) (101, [])
    ∷ agrees file134 trie51 false
    ∷ looks_up file134 trie52 (text "rate1" ∷ []) (4, 255 ∷ [])
    ∷ looks_up file134 trie52 (text "rate3" ∷ []) (100, 1 ∷ 0 ∷ [])
    ∷ looks_up file134 trie52 (text "s" ∷ []) (101, [])
    ∷ agrees file134 trie52 false
    ∷ looks_up file134 trie53 (text "rate1" ∷ []) (100, 1 ∷ 0 ∷ [])
    ∷ looks_up file134 trie53 (text "rate3" ∷ []) (100, 1 ∷ 0 ∷ [])
    ∷ looks_up file134 trie53 (text "s" ∷ []) (4, 255 ∷ [])
    ∷ agrees file134 trie53 false
    ∷ looks_up file134 trie54 (text "rate1" ∷ []) (4, 255 ∷ [])
    ∷ looks_up file134 trie54 (text "rate3" ∷ []) (4, 255 ∷ [])
    ∷ looks_up file134 trie54 (text "s" ∷ []) (101, [])
    ∷ agrees file134 trie54 false
    ∷ looks_up file134 trie55 (text "rate1" ∷ []) (4, 255 ∷ [])
    ∷ looks_up file134 trie55 (text "rate3" ∷ []) (4, 255 ∷ [])
    ∷ looks_up file134 trie55 (text "s" ∷ []) (101, [])
    ∷ agrees file134 trie55 false
    ∷ looks_up file134 trie56 (text "rate1" ∷ []) (4, 4 ∷ [])
    ∷ looks_up file134 trie56 (text "rate3" ∷ []) (100, 1 ∷ 0 ∷ [])
    ∷ looks_up file134 trie56 (text "s" ∷ []) (101, [])
    ∷ agrees file134 trie56 false
    ∷ looks_up file134 trie57 (text "rate1" ∷ []) (100, 1 ∷ 0 ∷ [])
    ∷ looks_up file134 trie57 (text "rate3" ∷ []) (100, 1 ∷ 0 ∷ [])
    ∷ looks_up file134 trie57 (text "s" ∷ []) (101, [])
    ∷ agrees file134 trie57 false
    ∷ looks_up file134 trie58 (text "rate1" ∷ []) (100, 1 ∷ 0 ∷ [])
    ∷ looks_up file134 trie58 (text "rate3" ∷ []) (100, 1 ∷ 0 ∷ [])
    ∷ looks_up file134 trie58 (text "s" ∷ []) (101, [])
    ∷ agrees file134 trie58 false
    ∷ looks_up file134 trie59 (text "rate1" ∷ []) (100, 1 ∷ 0 ∷ [])
    ∷ looks_up file134 trie59 (text "rate3" ∷ []) (100, 1 ∷ 0 ∷ [])
    ∷ looks_up file134 trie59 (text "s" ∷ []) (101, [])
    ∷ agrees file134 trie59 false
    ∷ looks_up file134 trie60 (text "rate1" ∷ []) (100, 1 ∷ 0 ∷ [])
    ∷ looks_up file134 trie60 (text "rate3" ∷ []) (100, 1 ∷ 0 ∷ [])
    ∷ looks_up file134 trie60 (text "s" ∷ []) (101, [])
    ∷ agrees file134 trie60 false
    ∷ looks_up file134 trie61 (text "rate1" ∷ []) (4, 255 ∷ [])
    ∷ looks_up file134 trie61 (text "rate3" ∷ []) (4, 255 ∷ [])
    ∷ looks_up file134 trie61 (text "s" ∷ []) (101, [])
    ∷ agrees file134 trie61 false
    ∷ looks_up file134 trie62 (text "rate1" ∷ []) (100, 1 ∷ 0 ∷ [])
    ∷ looks_up file134 trie62 (text "rate3" ∷ []) (100, 1 ∷ 0 ∷ [])
    ∷ looks_up file134 trie62 (text "s" ∷ []) (101, [])
    ∷ agrees file134 trie62 false
    ∷ looks_up file134 trie63 (text "rate1" ∷ []) (4, 255 ∷ [])
    ∷ looks_up file134 trie63 (text "rate3" ∷ []) (4, 255 ∷ [])
    ∷ looks_up file134 trie63 (text "s" ∷ []) (4, 255 ∷ [])
    ∷ agrees file134 trie63 false
    ∷ looks_up file134 trie64 (text "rate1" ∷ []) (4, 255 ∷ [])
    ∷ looks_up file134 trie64 (text "rate3" ∷ []) (4, 255 ∷ [])
    ∷ looks_up file134 trie64 (text "s" ∷ []) (101, [])
    ∷ agrees file134 trie64 false
    ∷ looks_up file134 trie65 (text "rate1" ∷ []) (100, 1 ∷ 0 ∷ [])
    ∷ looks_up file134 trie65 (text "rate3" ∷ []) (4, 4 ∷ [])
    ∷ looks_up file134 trie65 (text "s" ∷ []) (101, [])
    ∷ agrees file134 trie65 false
    ∷ looks_up file134 trie66 (text "rate1" ∷ []) (100, 1 ∷ 0 ∷ [])
    ∷ looks_up file134 trie66 (text "rate3" ∷ []) (4, 4 ∷ [])
    ∷ looks_up file134 trie66 (text "s" ∷ []) (101, [])
    ∷ agrees file134 trie66 false
    ∷ looks_up file134 trie67 (text "rate1" ∷ []) (4, 255 ∷ [])
    ∷ looks_up file134 trie67 (text "rate3" ∷ []) (4, 255 ∷ [])
    ∷ looks_up file134 trie67 (text "s" ∷ []) (101, [])
    ∷ agrees file134 trie67 false ∷ []

abbrev pub puttings : List Case
puttings =
    puts file135 trie15 (text "z" ∷ []) 18446744073709551615 0 3 (8, []) file135 trie15
    ∷ puts file136 trie15 (text "}" ∷ []) 1660152084343432556 4 2 (111, 264 ∷ 3 ∷ []) file137 trie15
    ∷ puts file138 trie68 (text "n" ∷ []) 917 1 2 (111, 38 ∷ 0 ∷ []) file139 trie68
    ∷ puts file140 trie69 (text "noo" ∷ []) 14212445709277726559 18446744073709551614 1
    (111, 156 ∷ 2 ∷ []) file141 trie69
    ∷ puts file142 trie15 (text "srsssrt" ∷ []) 75 18446744073709551615 2 (110, []) file143 trie70
    ∷ puts file144 trie15 (text "r" ∷ []) 177 5 1 (110, []) file145 trie15
    ∷ puts file146 trie71 (text "ba" ∷ []) 237 3 0 (4, 255 ∷ []) file146 trie71
    ∷ puts file147 trie15 (text "!a" ∷ []) 253 4 2 (111, 471 ∷ 0 ∷ []) file148 trie15
    ∷ puts file149 trie2 (text "aba" ∷ []) 576 1 0 (2, []) file149 trie2
    ∷ puts file150 trie3 (text "rt" ∷ []) 829 1 2 (3, []) file150 trie3
    ∷ puts file151 trie72 (text "iooni" ∷ []) 0 0 2 (4, 255 ∷ []) file151 trie72
    ∷ puts file152 trie73 (text "bbba" ∷ []) 404 4 2 (4, 255 ∷ []) file152 trie73
    ∷ puts file153 trie74 (text "W" ∷ byte 0x1F ∷ text "]" ∷ []) 813 2 2 (1, []) file153 trie74
    ∷ puts file154 trie15 (text "ii" ∷ []) 4241644087613476020 0 1 (110, []) file155 trie15
    ∷ puts file156 trie15 (text "}!" ∷ []) 15388925363616703671 17596854470808065378 2 (110, []) file157 trie15
    ∷ puts file158 trie75 (text "yyzzzxyzyyyxxzyzzzxy" ∷ []) 641 2 0 (112, 0 ∷ []) file158 trie75
    ∷ puts file159 trie2 (text "a" ∷ []) 814 0 2 (111, 921 ∷ 0 ∷ []) file160 trie2
    ∷ puts file161 trie76 (text "nooononnoioinnoiiiiooo" ∷ []) 3 0 1 (12, []) file161 trie76
    ∷ puts file162 trie15 (text "rt" ∷ []) 688 0 1 (112, 1 ∷ []) file163 trie15
    ∷ puts file164 trie77 (text "xy" ∷ []) 868 3 2 (5, []) file164 trie77
    ∷ puts file165 trie78 (text "aaa" ∷ []) 98 18446744073709551615 0 (112, 0 ∷ []) file165 trie78
    ∷ puts file166 trie3 (text "ttt" ∷ []) 552 18446744073709551614 2 (5, []) file166 trie3
    ∷ puts file167 trie79 (text "iin" ∷ byte 0x20 ∷ text "nn" ∷ []) 497 4 1 (12, []) file167 trie79
    ∷ puts file168 trie80 (text "!}}" ∷ []) 12901796991371084651 18446744073709551614 2 (110, []) file169 trie81
    ∷ puts file170 trie82 (text "}}!" ∷ []) 10618081294233447906 3 0 (12, []) file170 trie82
    ∷ puts file171 trie83 (text "a" ∷ byte 0x20 ∷ text "aab" ∷ []) 777 4 2 (110, []) file172 trie84
    ∷ puts file173 trie15 (text "rs" ∷ []) 64 1 1 (112, 1 ∷ []) file174 trie15
    ∷ puts file175 trie85 (text "a" ∷ byte 0x20 ∷ text "ab" ∷ []) 545 2 2 (110, []) file176 trie86
    ∷ puts file177 trie87 (text "niiiiniiiinnoon" ∷ []) 574 2 2 (110, []) file178 trie88
    ∷ puts file179 trie89 (text "a}" ∷ []) 0 12684405389545706104 2 (110, []) file180 trie90
    ∷ puts file181 trie91 (text "a}a" ∷ []) 507 18446744073709551614 2 (110, []) file182 trie92
    ∷ puts file183 trie93 (text "a!a" ∷ []) 876 1 2 (110, []) file184 trie94
    ∷ puts file185 trie95 (text "ab" ∷ []) 29 5 2 (110, []) file186 trie96
    ∷ puts file187 trie97 (text "i" ∷ blanks 2 ∷ text "ni" ∷ []) 2184628092687535716 0 2 (110, []) file188 trie98 ∷ []

abbrev pub removings : List Case
removings =
    removes file189 trie99 (text "}}" ∷ []) 0 (101, []) file189 trie99
    ∷ removes file190 trie100 (text "!}!}" ∷ []) 2 (120, []) file191 trie100
    ∷ removes file192 trie101 (text "bba" ∷ []) 3 (8, []) file192 trie101
    ∷ removes file193 trie102 (text "abbaabaabbbababbbbaa" ∷ []) 2 (4, 255 ∷ []) file193 trie102
    ∷ removes file194 trie103 (text "}!" ∷ []) 2 (3, []) file194 trie103
    ∷ removes file195 trie104 (text "yxxyyzzxxxxxzxyxyzyxxzz" ∷ []) 1 (120, []) file196 trie104
    ∷ removes file197 trie105 (text "ii" ∷ []) 1 (101, []) file197 trie105
    ∷ removes file198 trie106 (text "zxzyxxzzzyzyyxyyxxyxxyz" ∷ []) 0 (112, 0 ∷ []) file198 trie106
    ∷ removes file199 trie107 (text "abbbb" ∷ []) 2 (120, []) file200 trie107
    ∷ removes file201 trie108 (text "a" ∷ blanks 5 ∷ text "!" ∷ byte 0x20 ∷ []) 0 (1, []) file201 trie108
    ∷ removes file202 trie109 (text "i" ∷ byte 0x20 ∷ text "n" ∷ []) 0 (112, 0 ∷ []) file202 trie109
    ∷ removes file203 trie95 (text "a}" ∷ []) 2 (2, []) file203 trie95
    ∷ removes file204 trie110 (text "trt" ∷ []) 2 (120, []) file205 trie111
    ∷ removes file206 trie112 (text "baabb" ∷ []) 2 (120, []) file207 trie113
    ∷ removes file208 trie114 (text "ionoiinonniniiii" ∷ []) 2 (120, []) file209 trie115
    ∷ removes file210 trie116 (text "bba" ∷ []) 1 (112, 1 ∷ []) file211 trie116
    ∷ removes file212 trie117 (text "nnn" ∷ []) 2 (120, []) file213 trie118
    ∷ removes file214 trie119 (text "!}!!!" ∷ []) 1 (112, 1 ∷ []) file215 trie119
    ∷ removes file216 trie120 (text "ba" ∷ []) 1 (112, 1 ∷ []) file217 trie120
    ∷ removes file218 trie121 (text "iii" ∷ byte 0x20 ∷ text "i" ∷ []) 2 (120, []) file219 trie122
    ∷ removes file220 trie123 (text "bab" ∷ []) 2 (120, []) file221 trie15 ∷ []

abbrev pub listings : List Case
listings =
    lists file222 trie124 (text "aaaaaaaaaaaaaaaaaaaaaaaaa" ∷ []) (text "b" ∷ []) (blanks 97 ∷ []) (1, []) (blanks 97
    ∷ [])
    ∷ lists file223 trie125 (text "iinio" ∷ []) (text "iiniino" ∷ []) (blanks 161 ∷ []) (2, []) (blanks 161 ∷ [])
    ∷ lists file224 trie126 (text "!!}" ∷ []) (text "!}!" ∷ []) (blanks 161 ∷ []) (152, 2 ∷ []) (text "!!}" ∷ blanks 21
    ∷ byte 0xF1 ∷ byte 0x01 ∷ zeros 6 ∷ text "!}!" ∷ blanks 21 ∷ text "A" ∷ byte 0x03 ∷ zeros 6 ∷ blanks 97 ∷ [])
    ∷ lists file216 trie120 (text "ba" ∷ []) (text "aa" ∷ []) (blanks 192 ∷ []) (152, 0 ∷ []) (blanks 192 ∷ [])
    ∷ lists file225 trie127 (text "i" ∷ []) (text "o" ∷ []) (blanks 33 ∷ []) (4, 255 ∷ []) (blanks 33 ∷ [])
    ∷ lists file226 trie128 (text "a" ∷ []) (text "b" ∷ []) (blanks 162 ∷ []) (152, 4 ∷ []) (text "a" ∷ blanks 23
    ∷ text "$" ∷ byte 0xDE ∷ byte 0xC0 ∷ byte 0xB8 ∷ byte 0xAC ∷ byte 0xBC ∷ byte 0xB9 ∷ text "`" ∷ byte 0xFF
    ∷ byte 0xFF ∷ byte 0xFF ∷ byte 0xFF ∷ byte 0xFF ∷ byte 0xFF ∷ byte 0xFF ∷ byte 0xFF ∷ text "ab" ∷ blanks 22
    ∷ text "G" ∷ byte 0x02 ∷ zeros 14 ∷ text "aba" ∷ blanks 21 ∷ byte 0x90 ∷ byte 0x01 ∷ zeros 6 ∷ byte 0x03 ∷ zeros 7
    ∷ text "b" ∷ blanks 23 ∷ byte 0xCB ∷ zeros 7 ∷ byte 0x03 ∷ zeros 7 ∷ blanks 2 ∷ [])
    ∷ lists file227 trie129 (text "rrr" ∷ []) (text "rt" ∷ []) (blanks 2 ∷ []) (7, []) (blanks 2 ∷ [])
    ∷ lists file228 trie130 (text "baa" ∷ []) (text "baab" ∷ []) (blanks 130 ∷ []) (152, 3 ∷ []) (text "baa" ∷ byte 0x20
    ∷ text "a" ∷ blanks 19 ∷ byte 0xCC ∷ byte 0x03 ∷ zeros 6 ∷ text "baaaaa" ∷ blanks 18 ∷ byte 0x03 ∷ byte 0xB1
    ∷ text "$" ∷ byte 0x9F ∷ byte 0xEE ∷ byte 0x14 ∷ byte 0x9A ∷ text "[baaab" ∷ blanks 19 ∷ byte 0xFF ∷ byte 0xFF
    ∷ byte 0xFF ∷ byte 0xFF ∷ byte 0xFF ∷ byte 0xFF ∷ byte 0xFF ∷ byte 0xFF ∷ blanks 34 ∷ [])
    ∷ lists file229 trie131 (text "iioio" ∷ []) (text "iioioni" ∷ []) [] (7, []) []
    ∷ lists file230 trie132 (text "ion" ∷ []) (text "ooni" ∷ []) (blanks 64 ∷ []) (152, 2 ∷ []) (text "ion" ∷ blanks 21
    ∷ text "U" ∷ byte 0x03 ∷ zeros 6 ∷ text "oon" ∷ blanks 21 ∷ byte 0xC1 ∷ byte 0x03 ∷ zeros 6 ∷ [])
    ∷ lists file231 trie133 (text "!!!a" ∷ []) (text "!a" ∷ []) (blanks 98 ∷ []) (152, 1 ∷ []) (text "!a" ∷ blanks 22
    ∷ byte 0xF3 ∷ byte 0xBE ∷ text "g7" ∷ byte 0xA8 ∷ text "[" ∷ byte 0xBD ∷ text "5" ∷ blanks 66 ∷ [])
    ∷ lists file232 trie134 (text "nnoino" ∷ []) (text "nnoioo" ∷ []) (blanks 32 ∷ []) (152, 1 ∷ []) (text "nnoioo"
    ∷ blanks 18 ∷ text "l" ∷ byte 0xED ∷ text "9" ∷ byte 0x95 ∷ text "q" ∷ byte 0x06 ∷ text "Y" ∷ byte 0x1D ∷ [])
    ∷ lists file233 trie135 (text "b" ∷ []) (text "bbb" ∷ []) (blanks 201 ∷ []) (3, []) (blanks 201 ∷ []) ∷ []

abbrev pub worked : List Case
worked =
    puts file234 trie15 (text "rate1" ∷ []) 1 0 2 (110, []) file235 trie15
    ∷ puts file235 trie15 (text "rate2" ∷ []) 2 0 2 (110, []) file236 trie15
    ∷ puts file236 trie15 (text "rate3" ∷ []) 3 0 2 (110, []) file237 trie136
    ∷ puts file237 trie136 (text "razz" ∷ []) 4 0 2 (110, []) file238 trie136
    ∷ looks_up file238 trie136 (text "rb" ∷ []) (101, [])
    ∷ puts file238 trie136 (text "rz" ∷ []) 5 0 2 (110, []) file239 trie137
    ∷ puts file238 trie136 (text "rz" ∷ []) 5 0 1 (112, 1 ∷ []) file240 trie136
    ∷ recovers file240 1 (130, 2 ∷ []) file238
    ∷ rebuilds file238 (151, []) trie136
    ∷ looks_up file238 trie136 (text "rz" ∷ []) (101, [])
    ∷ puts file241 trie15 (text "a" ∷ []) 2 0 2 (110, []) file242 trie2
    ∷ puts file243 trie15 (text "a" ∷ []) 2 0 2 (110, []) file244 trie26
    ∷ puts file245 trie15 (text "ab" ∷ []) 2 0 2 (110, []) file246 trie138
    ∷ puts file247 trie15 (text "ab" ∷ []) 2 0 2 (110, []) file248 trie139
    ∷ puts file249 trie15 (text "r1" ∷ []) 2 0 2 (110, []) file250 trie140
    ∷ puts file251 trie15 (text "r1" ∷ []) 2 0 2 (110, []) file252 trie140
    ∷ puts file253 trie15 (text "ca" ∷ []) 2 0 2 (110, []) file254 trie141
    ∷ puts file255 trie15 (text "ca" ∷ []) 2 0 2 (110, []) file256 trie141
    ∷ removes file257 trie142 (text "is" ∷ []) 1 (112, 1 ∷ []) file258 trie142
    ∷ removes file257 trie142 (text "is" ∷ []) 2 (120, []) file259 trie143
    ∷ recovers file258 1 (130, 2 ∷ []) file259
    ∷ removes file260 trie143 (text "a" ∷ []) 1 (112, 1 ∷ []) file261 trie143
    ∷ removes file260 trie143 (text "a" ∷ []) 2 (120, []) file262 trie144
    ∷ recovers file261 1 (130, 3 ∷ []) file262
    ∷ removes file263 trie144 (text "the" ∷ []) 1 (112, 1 ∷ []) file264 trie144
    ∷ removes file263 trie144 (text "the" ∷ []) 2 (120, []) file265 trie15
    ∷ recovers file264 1 (130, 1 ∷ []) file265 ∷ []

abbrev pub words : List Case
words =
    grows file266 4 8 ((text "the" ∷ []) ∷ (text "of" ∷ []) ∷ (text "and" ∷ []) ∷ (text "to" ∷ []) ∷ (text "a" ∷ []) ∷
    (text "in" ∷ []) ∷ (text "that" ∷ []) ∷ (text "is" ∷ []) ∷ (text "i" ∷ []) ∷ []) file267 trie142
    ∷ agrees file267 trie142 true
    ∷ arranged file267 (0 ∷ 3 ∷ 2 ∷ 1 ∷ []) ((text "i" ∷ byte 0x20 ∷ []) ∷ (text "i" ∷ []) ∷ (text "o" ∷ []) ∷ [])
    ∷ rebuilds file267 (151, []) trie145
    ∷ grows file268 4 16 ((text "the" ∷ []) ∷ (text "of" ∷ []) ∷ (text "and" ∷ []) ∷ (text "to" ∷ []) ∷ (text "a" ∷ [])
    ∷ (text "in" ∷ []) ∷ (text "that" ∷ []) ∷ (text "is" ∷ []) ∷ (text "i" ∷ []) ∷ (text "it" ∷ []) ∷ (text "for" ∷ [])
    ∷ (text "as" ∷ []) ∷ (text "with" ∷ []) ∷ (text "was" ∷ []) ∷ (text "his" ∷ []) ∷ (text "he" ∷ []) ∷ (text "be"
    ∷ []) ∷ (text "not" ∷ []) ∷ (text "by" ∷ []) ∷ (text "but" ∷ []) ∷ (text "have" ∷ []) ∷ (text "you" ∷ []) ∷
    (text "which" ∷ []) ∷ (text "are" ∷ []) ∷ (text "on" ∷ []) ∷ (text "or" ∷ []) ∷ (text "her" ∷ []) ∷ (text "had"
    ∷ []) ∷ (text "at" ∷ []) ∷ (text "from" ∷ []) ∷ (text "this" ∷ []) ∷ []) file269 trie146
    ∷ agrees file269 trie146 true
    ∷ arranged file269 (0 ∷ 9 ∷ 4 ∷ 10 ∷ 7 ∷ 8 ∷ 6 ∷ 3 ∷ 2 ∷ 1 ∷ 5 ∷ []) ((text "ar" ∷ []) ∷ (text "a" ∷ []) ∷ (text "b"
    ∷ []) ∷ (text "f" ∷ []) ∷ (text "he" ∷ []) ∷ (text "h" ∷ []) ∷ (text "i" ∷ byte 0x20 ∷ []) ∷ (text "i" ∷ []) ∷
    (text "o" ∷ []) ∷ (text "t" ∷ []) ∷ [])
    ∷ rebuilds file269 (151, []) trie147 ∷ []

abbrev pub fullest : List Case
fullest =
    rebuilds file270 (151, []) trie148
    ∷ rebuilds file271 (6, []) trie15
    ∷ puts file270 trie148 (text "!" ∷ []) 1 0 2 (6, []) file270 trie148 ∷ []
