use Rattle.std.proofs.Common.{rules, ◌≡◌, ◌<◌, ℕ, length, sym, ◌∙◌, ap, Vec}
use Rattle.journal.specs.Journal.{texts_of}
use Rattle.evidence_set.specs.ItemSets.{insert_all}
use Rattle.std.specs.declared.alloc.Global.{Global}
use Rattle.durable_store.proofs.Journalled.{begun_with, grown_by, keeps_either, no_vector, same_by, some_texts}
use Rattle.durable_store.proofs.Moments.{weaker}
use Rattle.durable_store.proofs.item_journal.ItemJournal.write_new.Goals as goal

pub returns-then-is_empty-clause-has : goal.returns-then-is_empty-clause-has
returns-then-is_empty-clause-has g c = λ E group of.
    let zero : length c.args.texts.now ≡ 0 = search rules in
    let none = no_vector c.args.texts.now zero in
    same_by _ _ _ E group of.has (sym (ap texts_of none) ∙ of.are)

pub returns-in_err-write-clause-any_moment : goal.returns-in_err-write-clause-any_moment
returns-in_err-write-clause-any_moment g c = λ E group of.
    let some : 0 < length c.args.texts.now = search rules in
    weaker g.D.Device.moment g.D.Device.left_since _ _ _ _ c.write.ensures.any_moment (λ file stands. keeps_either _ _ _ _ E group file (some_texts c.args.texts.now some) of.has of.are stands)

pub returns-clause-has : goal.returns-clause-has
returns-clause-has g c = λ E group of.
    let some : 0 < length c.args.texts.now = search rules in
    let done = c.in_ok-write.ensures.written in
    let same = ap (λ (v : Vec (Vec ℕ Global) Global). texts_of v.items) c.in_ok-write.ensures.basis in
    begun_with _ _ _ (insert_all E group) _ _ done.1 same done.2 (grown_by _ _ _ _ E group (some_texts c.args.texts.now some) of.has of.are)

pub returns-clause-any_moment : goal.returns-clause-any_moment
returns-clause-any_moment g c = λ E group of.
    let some : 0 < length c.args.texts.now = search rules in
    weaker g.D.Device.moment g.D.Device.left_since _ _ _ _ c.write.ensures.any_moment (λ file stands. keeps_either _ _ _ _ E group file (some_texts c.args.texts.now some) of.has of.are stands)
