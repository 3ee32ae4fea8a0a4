-- `is_passing` meets its contract: at each turn the strings before a bucket's upper are met.
use Rattle.model.proofs.Prelude.{get_or, ◌+◌, ◌-◌, ◌≡◌, ◌≤◌, arith, clash, eqb-true, length-replicate, rules, refl, ℕ}
use Rattle.image.specs.Images.{side_from, trie_from}
use Rattle.agreeing.proofs.Ways.{goes_to}
use Rattle.agreeing.proofs.Bounds.{reaches_end, reaches_start, reaches_step}
use Rattle.agreeing.proofs.Agreeing.{given}
use Rattle.agreeing.proofs.is_passing.Goals as goal

pub returns-then-count-eq0 : goal.returns-then-count-eq0
returns-then-count-eq0 c e = clash cc

pub loop-j-init : goal.loop-j-init
loop-j-init c =
    let a = c.args in (
      search rules,
      search rules,
      refl,
      record { marks_whole = length-replicate {A = ℕ} 256 0; cells_whole = length-replicate {A = ℕ} 256 0; room = omega arith; inside = search rules },
      reaches_start a.file.now a.order.now a.size a.count (trie_from a.image.now).cells a.cells (side_from a.side) _ _ _ refl refl refl,
    )

pub slot_at-one-requires : goal.slot_at-one-requires
slot_at-one-requires c =
    let l = c.loop-j in
    (c.requires.0, omega (arith, l.invariant.2, c.requires.1 (l.j - 1)))

pub slot_at-two-requires : goal.slot_at-two-requires
slot_at-two-requires c =
    let l = c.loop-j in
    (c.requires.0, c.requires.1 l.j)

pub returns-then-x-shared : goal.returns-then-x-shared
returns-then-x-shared c e = clash cc

pub bound_met-requires : goal.bound_met-requires
bound_met-requires c =
    let l = c.loop-j in
    (search rules, l.invariant.3, omega (arith, l.invariant.2, c.requires.1 (l.j - 1), c.requires.0.legal.slots_most), search rules, search rules)

pub returns-in_default : goal.returns-in_default
returns-in_default c = search (rules, c.loop-j-test.true, c.requires.2)

pub overflow_add-met : goal.overflow_add-met
overflow_add-met c =
    let l = c.loop-j in
    let most : l.met ≤ 1536 = omega (arith, l.invariant.1, c.loop-j-test.true, c.requires.2) in
    search (rules, most, c.upper-x.ensures.1)

pub loop-j-smaller : goal.loop-j-smaller
loop-j-smaller c = search (rules, c.loop-j-test.true)

pub loop-j-preserved : goal.loop-j-preserved
loop-j-preserved c =
    let l = c.loop-j in let a = c.args in let m = c.bound_met in let w = c.in-Some.is in
    let sh = c.shared_uppers-shared in let x = c.upper-x in let two = c.slot_at-two in let one = c.slot_at-one in
    let place : l.j + 1 - 1 ≡ l.j = omega arith in (
      search rules,
      omega (arith, l.invariant.1, x.ensures.1),
      rw place refl,
      (goes_to w m.ensures).0,
      reaches_step a.file.now a.order.now a.size a.count (trie_from a.image.now).cells a.cells (side_from a.side) l.met l.j l.slot (get_or a.order.now l.j 0) sh.result x.result.now one.result.bytes.now two.result.bytes.now
          c.requires.1 l.invariant.0 c.loop-j-test.true l.invariant.2 refl one.ensures.0 two.ensures.0 x.ensures.0 sh.ensures c.if-x-shared.false l.invariant.4 (goes_to w m.ensures).1,
    )

pub returns-then-spot-slot : goal.returns-then-spot-slot
returns-then-spot-slot c e = clash cc

pub returns-then-spot-ne0 : goal.returns-then-spot-ne0
returns-then-spot-ne0 c e = clash cc

pub returns : goal.returns
returns c = λ e.
    let l = c.loop-j in let a = c.args in
    λ few fs r S k o.
    reaches_end a.file.now a.order.now a.size a.count (trie_from a.image.now).cells a.cells (side_from a.side) a.image.now a.side refl refl _ _ l.spot l.met l.j l.slot
    l.invariant.0 c.loop-j-test.false c.if-spot-slot.false l.invariant.2 (omega (arith, l.invariant.2, c.requires.1 (l.j - 1), c.requires.0.legal.slots_most)) c.if-spot-ne0.false (eqb-true l.met a.cells e) l.invariant.4 few fs
    (given a.file.now a.size a.order.now a.count c.requires.0 fs r S k o)
