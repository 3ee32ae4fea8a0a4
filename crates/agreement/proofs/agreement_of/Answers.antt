-- `agreement_of` meets its contract: without strings no trie agrees, each test that fails tells that the trie does not, and the pass decides the rest.
use Rattle.model.proofs.Prelude.{◌∙◌, arith, refl, sym}
use Rattle.image.specs.Images.{trie_from}
use Rattle.image.proofs.Coding.{length-cells_from}
use Rattle.agreement.proofs.Answers.{by_leaf, by_pass, not_clear, not_count, not_first, not_many}
use Rattle.agreement.proofs.agreement_of.Goals as goal

pub returns-in_err-strings : goal.returns-in_err-strings
returns-in_err-strings c = rw (c.in_err-strings.was, c.from_residual.ensures) (not_many (trie_from c.args.image.now))

pub returns-then-count_of-count : goal.returns-then-count_of-count
returns-then-count_of-count c =
    let a = c.args in
    let s = c.in_ok-strings.strings.now in
    rw c.in_ok-strings.was (not_count (trie_from a.image.now) s (λ e. c.if-count_of-count.true (c.count_of.ensures ∙ e)))

pub returns-then-not-is_clear_past : goal.returns-then-not-is_clear_past
returns-then-not-is_clear_past c =
    let a = c.args in
    let s = c.in_ok-strings.strings.now in
    rw c.in_ok-strings.was (not_clear (trie_from a.image.now) s (sym c.is_clear_past.ensures ∙ c.if-not-is_clear_past.true))

pub returns-then-count-eq0 : goal.returns-then-count-eq0
returns-then-count-eq0 c =
    let a = c.args in
    let s = c.in_ok-strings.strings.now in
    rw c.in_ok-strings.was (by_leaf (trie_from a.image.now) s (length-cells_from 256 a.image.now) s.few (sym c.count_of.ensures ∙ c.if-count_of-count.false)
    (sym c.is_clear_past.ensures ∙ c.if-not-is_clear_past.false) _ _ c.then_some.ensures c.if-count-eq0.true c.first_of-first.ensures.0 refl)

pub returns-then-first-ne0 : goal.returns-then-first-ne0
returns-then-first-ne0 c =
    let a = c.args in
    let s = c.in_ok-strings.strings.now in
    rw c.in_ok-strings.was (not_first (trie_from a.image.now) s (omega (arith, c.if-count-eq0.false)) (λ e. c.if-first-ne0.true (c.first_of-first.ensures.0 ∙ e)))

pub returns : goal.returns
returns c =
    let a = c.args in
    let s = c.in_ok-strings.strings.now in
    rw c.in_ok-strings.was (by_pass (trie_from a.image.now) s (length-cells_from 256 a.image.now) s.few (sym c.count_of.ensures ∙ c.if-count_of-count.false)
    (sym c.is_clear_past.ensures ∙ c.if-not-is_clear_past.false) _ c.if-count-eq0.false
    (sym c.first_of-first.ensures.0 ∙ c.if-first-ne0.false) c.pass.ensures)
