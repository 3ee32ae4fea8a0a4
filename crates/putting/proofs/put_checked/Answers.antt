-- `put_checked` meets its contract: at most one store, or a split of a bucket that is full.
use Rattle.model.proofs.Prelude.{refl, rules}
use Rattle.model.specs.Format.{kept_run}
use Rattle.model.specs.declared.Content.{Content}
use Rattle.image.specs.Images.{trie_from}
use Rattle.checking.proofs.Laws.{error_is}
use Rattle.checking.proofs.Ready.{ready_sound}
use Rattle.putting.proofs.Homes.{fits_there, put_content, row_there, stands}
use Rattle.putting.proofs.Putting.{one_taken, split_taken, trie_left}
use Rattle.putting.proofs.put_checked.Goals as goal

pub put_in-requires : goal.put_in-requires
put_in-requires c = (c.requires.0.ready.said.sized, c.home_of-k.ensures.inside, c.requires.1, c.requires.2)

pub returns-in_err-done : goal.returns-in_err-done
returns-in_err-done c fs e =
    let a = c.args in let kept = c.kept_run in let H = c.home_of-k.ensures.right fs e in let y = a.checked.now.size.layout in let t = trie_from a.image.now in
    let content : Content = record { value = a.value; run = kept.result } in
    let k = put_content y content a.value a.run refl kept.ensures (search rules) (search rules) in
    rw (error_is c.from_residual.result c.from_residual.ensures.1)
    (trie_left _ _ a.image.now c.told-image c.fits-image
    (one_taken a.file.now t y fs a.name.now a.limit k.1 kept.ensures (c.in_err-done.ensures fs e (ready_sound c.requires.0.ready e) H.0 H.1 H.2 H.3 k.0 t)))

pub returns-in-Some : goal.returns-in-Some
returns-in-Some c fs e =
    let a = c.args in let kept = c.kept_run in let H = c.home_of-k.ensures.right fs e in let y = a.checked.now.size.layout in let t = trie_from a.image.now in
    let content : Content = record { value = a.value; run = kept.result } in
    let k = put_content y content a.value a.run refl kept.ensures (search rules) (search rules) in
    let told = rw c.in-Some.is at c.in_ok-done.ensures in
    trie_left _ _ a.image.now c.told-image c.fits-image
    (one_taken a.file.now t y fs a.name.now a.limit k.1 kept.ensures (told fs e (ready_sound c.requires.0.ready e) H.0 H.1 H.2 H.3 k.0 t))

pub slot_at-requires : goal.slot_at-requires
slot_at-requires c =
    let told = rw c.in_default.is at c.in_ok-done.ensures in
    (rw told.0 c.requires.0.ready.said.sized, c.home_of-k.ensures.inside)

pub split-requires : goal.split-requires
split-requires c =
    let told = rw c.in_default.is at c.in_ok-done.ensures in
    (rw told.0 c.requires.0, c.home_of-k.ensures.inside)

pub returns : goal.returns
returns c fs e =
    let a = c.args in let kept = c.kept_run in let H = c.home_of-k.ensures.right fs e in let y = a.checked.now.size.layout in
    let content : Content = record { value = a.value; run = kept.result } in
    let S = ready_sound c.requires.0.ready e in
    let k = put_content y content a.value a.run refl kept.ensures (search rules) (search rules) in
    let told = rw c.in_default.is at c.in_ok-done.ensures in
    let full = told.1 fs e S H.0 H.1 H.2 H.3 in
    let A = stands a.checked.now.size a.file.now a.key e S H.3 (rw told.0 at c.slot_at.ensures) c.spot_in-spot.ensures c.requires.1 c.requires.2 in
    split_taken a.file.now a.image.now y H.3 k.1 (kept_run y a.run) a.limit full.0
    (rw told.0 at c.split.ensures fs e a.name.now _ H.0 H.1 H.2 (record {
      legal = c.requires.1;
      home = H.3;
      new = full.0;
      counted = full.1;
      row_is = row_there A _ _ (c.overfull-row.ensures H.0 H.1 H.2 A.read c.requires.1 A.spot full.0 (fits_there A content k.0)).0;
    }))
