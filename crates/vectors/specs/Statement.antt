-- Every case holds: one equation for each list of cases.
use Rattle.std.specs.Prelude.{◌≡◌, true}
use Rattle.vectors.specs.Vectors.{cases_hold}
use Rattle.vectors.specs.Cases.{agreements, arrangements, checkings, creatings, fullest, insides, legals, listings, lookings, orders, puttings, rebuildings, recoverings, removings, strings, words, worked, wrongs}

pub record EveryCase : Type 0 where
  pub legals_hold : cases_hold legals ≡ true
  pub insides_hold : cases_hold insides ≡ true
  pub orders_hold : cases_hold orders ≡ true
  pub strings_hold : cases_hold strings ≡ true
  pub arrangements_hold : cases_hold arrangements ≡ true
  pub agreements_hold : cases_hold agreements ≡ true
  pub checkings_hold : cases_hold checkings ≡ true
  pub creatings_hold : cases_hold creatings ≡ true
  pub recoverings_hold : cases_hold recoverings ≡ true
  pub rebuildings_hold : cases_hold rebuildings ≡ true
  pub lookings_hold : cases_hold lookings ≡ true
  pub wrongs_hold : cases_hold wrongs ≡ true
  pub puttings_hold : cases_hold puttings ≡ true
  pub removings_hold : cases_hold removings ≡ true
  pub listings_hold : cases_hold listings ≡ true
  pub worked_hold : cases_hold worked ≡ true
  pub words_hold : cases_hold words ≡ true
  pub fullest_hold : cases_hold fullest ≡ true
