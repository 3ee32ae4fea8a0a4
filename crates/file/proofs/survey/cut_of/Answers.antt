-- `cut_of` meets its contract: the second of the two is the slot to free, where it is a copy and the rest is a chain.
use Rattle.model.proofs.Prelude.{◌-◌, arith}
use Rattle.file.proofs.Verdicts.{laid_known, laid_listed, rest_listed, said_cut, said_no_chain, said_no_copy}
use Rattle.file.proofs.survey.cut_of.Goals as goal

pub slot_at-requires : goal.slot_at-requires
slot_at-requires c = (c.requires.0, c.requires.1 c.args.place)

pub slot_at-outside-requires : goal.slot_at-outside-requires
slot_at-outside-requires c = (c.requires.0, c.requires.1 (c.args.place - 1))

pub returns-then-not-is_copy_of : goal.returns-then-not-is_copy_of
returns-then-not-is_copy_of c =
    let place = c.args.place in let few = c.requires.2 in
    let L = c.requires.5 in
    let T = c.requires.6 L.slots (laid_known few L) (laid_listed few L) in
    said_no_copy few L place T (place - 1) (omega arith) c.requires.3 _ _ c.slot_at.ensures.0 c.slot_at-outside.ensures.0 c.is_copy_of.result (rw c.slot_at.ensures.1 at c.is_copy_of.ensures) (c.if-not-is_copy_of.true)

pub is_chain-requires : goal.is_chain-requires
is_chain-requires c =
    (c.requires.0, c.leave_out.ensures.0 c.args.size.slots c.requires.1, omega arith, c.leave_out.ensures.1)

pub returns-then-not-is_chain : goal.returns-then-not-is_chain
returns-then-not-is_chain c =
    let place = c.args.place in let few = c.requires.2 in
    let L = c.requires.5 in
    let K = laid_known few L in
    let T = c.requires.6 L.slots K (laid_listed few L) in
    let cs = c.leave_out.ensures in
    let I = rest_listed few L place T (place - 1) (omega arith) c.requires.3 _ cs.1 cs.2 in
    said_no_chain few L place T (place - 1) (omega arith) c.requires.3 _ _ c.slot_at.ensures.0 c.slot_at-outside.ensures.0 c.is_copy_of.result (rw c.slot_at.ensures.1 at c.is_copy_of.ensures)
    c.is_chain.result _ cs.2 (c.is_chain.ensures L.slots K I) (c.if-not-is_chain.true)

pub returns : goal.returns
returns c =
    let place = c.args.place in let few = c.requires.2 in
    let L = c.requires.5 in
    let K = laid_known few L in
    let T = c.requires.6 L.slots K (laid_listed few L) in
    let cs = c.leave_out.ensures in
    let I = rest_listed few L place T (place - 1) (omega arith) c.requires.3 _ cs.1 cs.2 in (
      c.requires.1 place,
      said_cut few L place T (place - 1) (omega arith) c.requires.3 _ _ c.slot_at.ensures.0 c.slot_at-outside.ensures.0 c.is_copy_of.result (rw c.slot_at.ensures.1 at c.is_copy_of.ensures)
          c.is_chain.result _ cs.2 (c.is_chain.ensures L.slots K I) (c.if-not-is_copy_of.false) (c.if-not-is_chain.false),
    )
