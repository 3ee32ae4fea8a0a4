-- `survey_of` meets its contract: what the guess does not tell is told by sorting.
use Rattle.std.specs.Prelude.{Option as Maybe}
use Rattle.model.proofs.Prelude.{◌≤◌, arith, length, subst, ℕ}
use Rattle.surveying.specs.Rows.{TallyTold}
use Rattle.surveying.proofs.Rows.{row_map, row_order, row_said}
use Rattle.surveying.proofs.survey_of.Goals as goal

pub is_row-requires : goal.is_row-requires
is_row-requires c = (c.requires, c.guessed-guess.ensures.0, c.guessed-guess.ensures.2, c.guessed-guess.ensures.1)

pub tally_of-requires : goal.tally_of-requires
tally_of-requires c = (c.requires, c.guessed-guess.ensures.2, c.guessed-guess.ensures.1)

pub returns : goal.returns
returns c =
    let guess = c.guessed-guess in
    let xs = c.args.file.now in let size = c.args.size in let order = guess.result.order in let inside = guess.ensures.0 in
    let short : guess.result.count ≤ length order = omega (arith, guess.ensures.1, guess.ensures.2) in
    let R = c.is_row.ensures (c.if-not-is_row.false) in
    let T = subst (λ (r : Maybe ℕ). TallyTold r xs size order guess.result.count) c.in-Some.is c.tally_of.ensures R.stands in
    record {
      slots_inside = inside;
      count_most = guess.ensures.2;
      kind_is = row_said T R inside short;
      order_is = λ {fs}. row_order T R inside short fs;
      used_is = λ {fs}. row_map T R inside short fs;
    }
