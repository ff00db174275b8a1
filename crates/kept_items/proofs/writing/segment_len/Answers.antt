use Rattle.std.proofs.Common.{arith}
use Rattle.item_forms.specs.declared.forms.Fields.TheVariants as form
use Rattle.kept_items.specs.within.Lent.{whole}
use Rattle.kept_items.proofs.Spelled.{all_fit, segment_length}
use Rattle.kept_items.proofs.writing.segment_len.Goals as goal

pub entries_len-requires-clause-fit : goal.entries_len-requires-clause-fit
entries_len-requires-clause-fit c = all_fit c.args.parts.now.handles.now c.requires.fits.entries.each

pub entries_len-requires-clause-few : goal.entries_len-requires-clause-few
entries_len-requires-clause-few c =
    let p = c.args.parts.now in
    let long = segment_length p.node p.prev p.handles.now p.sig.now c.requires.fits in
    let most = c.spellings_are_short.ensures.most (record { fields = form.Segment (whole p); fits = c.requires.fits }) in
    omega (arith, long, most)

pub overflow_add-result : goal.overflow_add-result
overflow_add-result c =
    let p = c.args.parts.now in
    let long = segment_length p.node p.prev p.handles.now p.sig.now c.requires.fits in
    let most = c.spellings_are_short.ensures.most (record { fields = form.Segment (whole p); fits = c.requires.fits }) in
    omega (arith, long, most, c.entries_len.ensures)

pub overflow_add-result-2 : goal.overflow_add-result-2
overflow_add-result-2 c =
    let p = c.args.parts.now in
    let long = segment_length p.node p.prev p.handles.now p.sig.now c.requires.fits in
    let most = c.spellings_are_short.ensures.most (record { fields = form.Segment (whole p); fits = c.requires.fits }) in
    omega (arith, long, most, c.entries_len.ensures, c.len.ensures)

pub returns-clause-len : goal.returns-clause-len
returns-clause-len c =
    let p = c.args.parts.now in
    let long = segment_length p.node p.prev p.handles.now p.sig.now c.requires.fits in
    omega (arith, long, c.entries_len.ensures, c.len.ensures)

pub returns-clause-bound : goal.returns-clause-bound
returns-clause-bound c =
    let p = c.args.parts.now in
    let long = segment_length p.node p.prev p.handles.now p.sig.now c.requires.fits in
    let most = c.spellings_are_short.ensures.most (record { fields = form.Segment (whole p); fits = c.requires.fits }) in
    omega (arith, long, most, c.entries_len.ensures, c.len.ensures)
