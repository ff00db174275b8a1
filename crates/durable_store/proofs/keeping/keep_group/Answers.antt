use Rattle.std.proofs.Common.{List, ap, ◌∙◌}
use Rattle.evidence_item.specs.Checking.{Checked}
use Rattle.evidence_set.specs.ItemSets.{pieces}
use Rattle.journal.specs.Journal.{texts_of}
use Rattle.durable_store.specs.Calls.{unheld}
use Rattle.durable_store.specs.Keeping.{spellings}
use Rattle.durable_store.proofs.Sets.{grows}
use Rattle.durable_store.proofs.keeping.keep_group.Goals as goal

pub returns-in_err-texts-clause-within : goal.returns-in_err-texts-clause-within
returns-in_err-texts-clause-within g c = (λ x has. has, grows _ _)

pub returns-in_err-news-clause-within : goal.returns-in_err-news-clause-within
returns-in_err-news-clause-within g c = (λ x has. has, grows _ _)

pub returns-in_err-write_new-clause-within : goal.returns-in_err-write_new-clause-within
returns-in_err-write_new-clause-within g c = (λ x has. has, grows _ _)

pub returns-in_err-write_new-clause-any_moment : goal.returns-in_err-write_new-clause-any_moment
returns-in_err-write_new-clause-any_moment g c =
    let E = (g.S.Evidence.contents c.args.store.now).items in
    let are = ap texts_of c.deref-2.ensures.value ∙ c.in_ok-texts.ensures ∙ ap (λ (l : List Checked). spellings (unheld E (pieces l))) c.deref.ensures.value in
    c.write_new.ensures.any_moment E (pieces c.args.group.items) (record { has = c.requires.1.has; are = are })

pub returns-in-Ok-clause-any_moment : goal.returns-in-Ok-clause-any_moment
returns-in-Ok-clause-any_moment g c =
    let E = (g.S.Evidence.contents c.args.store.now).items in
    let are = ap texts_of c.deref-2.ensures.value ∙ c.in_ok-texts.ensures ∙ ap (λ (l : List Checked). spellings (unheld E (pieces l))) c.deref.ensures.value in
    c.write_new.ensures.any_moment E (pieces c.args.group.items) (record { has = c.requires.1.has; are = are })

pub returns-clause-any_moment : goal.returns-clause-any_moment
returns-clause-any_moment g c =
    let E = (g.S.Evidence.contents c.args.store.now).items in
    let are = ap texts_of c.deref-2.ensures.value ∙ c.in_ok-texts.ensures ∙ ap (λ (l : List Checked). spellings (unheld E (pieces l))) c.deref.ensures.value in
    c.write_new.ensures.any_moment E (pieces c.args.group.items) (record { has = c.requires.1.has; are = are })
