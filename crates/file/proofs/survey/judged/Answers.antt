-- `judged` meets its contract: slots of which no two neighbours have one upper bound are a chain, or the file is bad.
use Rattle.model.proofs.Prelude.{arith}
use Rattle.file.proofs.Verdicts.{laid_known, laid_listed, laid_map, laid_order, said_bad, said_sound, twin_none, twin_some}
use Rattle.file.proofs.survey.judged.Goals as goal

pub cut_of-requires : goal.cut_of-requires
cut_of-requires c =
    let T = twin_some _ _ _ _ c.in-Some.is c.repeated_upper.ensures in
    (c.requires.0, c.requires.1, c.requires.2, T.0, T.1, c.requires.3, T.2)

pub returns-then-not-is_chain : goal.returns-then-not-is_chain
returns-then-not-is_chain c =
    let L = c.requires.3 in
    let K = laid_known c.requires.2 L in
    let I = laid_listed c.requires.2 L in
    let T = twin_none _ _ _ _ c.in_default.is c.repeated_upper.ensures L.slots K I in
    said_bad c.requires.2 L _ T (omega arith) c.is_chain.result (c.is_chain.ensures L.slots K I) (c.if-not-is_chain.true)

pub returns : goal.returns
returns c =
    let L = c.requires.3 in
    let K = laid_known c.requires.2 L in
    let I = laid_listed c.requires.2 L in
    let T = twin_none _ _ _ _ c.in_default.is c.repeated_upper.ensures L.slots K I in
    record {
      slots_inside = c.requires.1;
      count_most = c.requires.2;
      kind_is = said_sound c.requires.2 L _ T (omega arith) c.is_chain.result (c.is_chain.ensures L.slots K I) (c.if-not-is_chain.false);
      order_is = λ {fs}. laid_order c.requires.2 L fs;
      used_is = λ {fs}. laid_map c.requires.2 L fs;
    }
