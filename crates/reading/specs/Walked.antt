-- Look up where a walk is known, whatever walk it is: what is answered by the place at which it stands.
use Rattle.std.specs.Prelude.{cond, List, ℕ, ltb}
use Rattle.std.proofs.Math.Option.{Option, none as nothing, some}
use Rattle.model.specs.declared.Cause.TheVariants.{BadFile, IllegalName}
use Rattle.model.specs.declared.Layout.{Layout}
use Rattle.model.specs.Results.{LookUpAnswer, LookUpRefused as Refused}
use Rattle.model.specs.Order.{Str}
use Rattle.model.specs.Tests.{is_legal_name}
use Rattle.model.specs.Names.{filled}
use Rattle.model.specs.Format.{header_of}
use Rattle.model.specs.Calls.{arrived_answer}
use Rattle.trie.specs.declared.Place.{Place}
use Rattle.trie.specs.declared.Place.TheVariants.{Cell as before_cell, Slot as at_slot, Stale as stale}

-- A walk that has not ended has reached no slot.
unfoldable pub slot_of : Place → ℕ → Option ℕ
slot_of (before_cell i) slots = nothing
slot_of (at_slot s) slots = cond (ltb s slots) (some s) nothing
slot_of stale slots = nothing

unfoldable pub headed_from : List ℕ → Place → Str → Option (Layout × ℕ) → LookUpAnswer
headed_from xs p n nothing = Refused BadFile
headed_from xs p n (some h) = arrived_answer xs h.0 n (slot_of p h.1)

unfoldable pub looked_up_from : List ℕ → Place → List ℕ → LookUpAnswer
looked_up_from xs p name =
    let a = headed_from xs p (filled name) (header_of xs) in
    cond (is_legal_name name) a (Refused IllegalName)
