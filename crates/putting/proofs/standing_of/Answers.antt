-- `standing_of` meets its contract: the strings are given and the trie agrees, since both passed the checks.
use Rattle.putting.proofs.Dividing.{places_there, standing_told, strings_there}
use Rattle.putting.proofs.standing_of.Goals as goal

pub unwrap-strings-requires : goal.unwrap-strings-requires
unwrap-strings-requires c = strings_there c.requires.ready c.strings_of.ensures

pub unwrap-places-requires : goal.unwrap-places-requires
unwrap-places-requires c = places_there c.requires (rw c.unwrap-strings.ensures at c.strings_of.ensures) _ c.agreement_of.ensures

pub returns : goal.returns
returns c = standing_told c.requires (rw c.unwrap-strings.ensures at c.strings_of.ensures) c.agreement_of.ensures c.unwrap-places.ensures
