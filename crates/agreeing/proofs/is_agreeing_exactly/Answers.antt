-- `is_agreeing_exactly` meets its contract: by the strings written down.
use Rattle.agreeing.proofs.Agreeing.{listed_told}
use Rattle.agreeing.proofs.is_agreeing_exactly.Goals as goal

pub returns : goal.returns
returns c =
    let a = c.args in
    rw c.is_some.ensures (listed_told a.file.now a.size a.order.now a.count c.requires.0 c.strings_of-strings.result c.agreement_of.result _
    c.strings_of-strings.ensures (rw c.as_ref.ensures.value at c.agreement_of.ensures))
