use Rattle.std.proofs.Common.{◌≡◌, ◌++◌, [], List, ℕ, Result, Ok, refl, sym, ap, subst, ◌∙◌, inr}
use Rattle.std.proofs.lemmas.List.{append-nil}
use Rattle.std.specs.Prelude.{IfOk, IsOk}
use Rattle.containers.specs.Container.{fed_with}
use Rattle.containers.specs.declared.fault.ImportFault.{ImportFault}
use Rattle.containers.specs.CheckedItems.{checked_of}
use Rattle.containers.specs.Feeding.{Feeds}
use Rattle.evidence.specs.within.Stages.{BeginsWith, GoesOn, IsKnown, IsShort, IsStage, fed_of}
use Rattle.evidence.specs.Importing.{fed_by}
use Rattle.evidence.proofs.Importing.{begins_on, fed_behind, header_through, is_open, memory_through, ok_more, short_fed}
use Rattle.evidence.proofs.stage.feed.Goals as goal

pub take_head-rest-requires : goal.take_head-rest-requires
take_head-rest-requires g c = is_open c.args.directory.now g.P.Program.means c.args.stage.now c.requires

pub returns-in-Head-clause-stage : goal.returns-in-Head-clause-stage
returns-in-Head-clause-stage g c = c.take_head-rest.ensures.stage c.args.directory.now c.requires

pub returns-in-Head-clause-fed : goal.returns-in-Head-clause-fed
returns-in-Head-clause-fed g c =
    let reads = checked_of c.args.directory.now in
    let head = c.in-Head.field-0.items in
    let none : c.take_head-rest.result.now ≡ [] = c.take_head-rest.ensures.all c.args.directory.now c.requires (subst IsShort (sym c.in-Head.is) tt) in
    let few = subst (IsStage c.args.directory.now g.P.Program.means) c.in-Head.is (c.take_head-rest.ensures.stage c.args.directory.now c.requires) in
    let all : head ++ c.take_head-rest.result.now ≡ head = ap (λ (t : List ℕ). head ++ t) none ∙ append-nil head in (
      head,
      c.take_head-rest.ensures.alike c.args.directory.now c.requires reads
          ∙ ap (fed_by reads c.take_head-rest.result.now) (ap fed_of c.in-Head.is)
          ∙ short_fed reads head c.take_head-rest.result.now (rw all few)
          ∙ ap (λ (t : List ℕ). let told : Result (List ℕ) ImportFault = Ok t in told) all,
      ap fed_of c.in-Head.is,
    )

pub returns-in-Items-clause-stage : goal.returns-in-Items-clause-stage
returns-in-Items-clause-stage g c =
    let r = c.in-Items.reading in
    let p = subst (IsStage c.args.directory.now g.P.Program.means) c.in-Items.is (c.take_head-rest.ensures.stage c.args.directory.now c.requires) in (
      c.feed.ensures.under p.0,
      subst IsKnown (sym c.feed.ensures.magic) p.1,
      subst (λ (m : List ℕ). IfOk c.feed.new.self.fed (BeginsWith m)) (sym c.feed.ensures.magic) (begins_on (checked_of c.args.directory.now) r.magic c.take_head-rest.result.now c.feed.result r.fed c.feed.new.self.fed p.2 (c.feed.ensures.fed p.0)),
    )

pub returns-in-Items-clause-fed : goal.returns-in-Items-clause-fed
returns-in-Items-clause-fed g c =
    let r = c.in-Items.reading in
    let reads = checked_of c.args.directory.now in
    let p = subst (IsStage c.args.directory.now g.P.Program.means) c.in-Items.is (c.take_head-rest.ensures.stage c.args.directory.now c.requires) in
    let same = c.take_head-rest.ensures.alike c.args.directory.now c.requires reads ∙ ap (fed_by reads c.take_head-rest.result.now) (ap fed_of c.in-Items.is) ∙ fed_behind reads r.magic c.take_head-rest.result.now r.fed p.1 p.2 in
    subst (λ (x : Result (List ℕ) ImportFault). Feeds c.feed.result x c.feed.new.self.fed) (sym same) (c.feed.ensures.fed p.0)

pub returns-in-Items-clause-memory : goal.returns-in-Items-clause-memory
returns-in-Items-clause-memory g c =
    let r = c.in-Items.reading in
    let p = subst (IsStage c.args.directory.now g.P.Program.means) c.in-Items.is (c.take_head-rest.ensures.stage c.args.directory.now c.requires) in
    let goes = ok_more (fed_of c.args.stage.now) (λ text. GoesOn c.take_head-rest.new.stage) (λ text. IsOk r.fed) (λ text h. subst GoesOn c.in-Items.is h) c.take_head-rest.ensures.goes in
    memory_through (fed_of c.args.stage.now) r.fed c.feed.result (λ reads. fed_by reads c.args.piece.now (fed_of c.args.stage.now)) (λ reads. fed_with r.magic reads c.take_head-rest.result.now r.fed) goes (c.feed.ensures.memory p.0)
    (λ reads. c.take_head-rest.ensures.alike c.args.directory.now c.requires reads ∙ ap (fed_by reads c.take_head-rest.result.now) (ap fed_of c.in-Items.is) ∙ fed_behind reads r.magic c.take_head-rest.result.now r.fed p.1 p.2)

pub returns-in-Items-clause-header : goal.returns-in-Items-clause-header
returns-in-Items-clause-header g c =
    let r = c.in-Items.reading in
    let piece = c.args.piece.now in
    let rest = c.take_head-rest.result.now in
    let p = subst (IsStage c.args.directory.now g.P.Program.means) c.in-Items.is (c.take_head-rest.ensures.stage c.args.directory.now c.requires) in
    let goes = ok_more (fed_of c.args.stage.now) (λ text. GoesOn c.take_head-rest.new.stage) (λ text. IsOk r.fed) (λ text h. subst GoesOn c.in-Items.is h) c.take_head-rest.ensures.goes in
    let joined = subst (λ (x : Result (List ℕ) ImportFault). IfOk (fed_of c.args.stage.now) (λ text. IfOk x (λ more. more ++ rest ≡ text ++ piece))) (ap fed_of c.in-Items.is) c.take_head-rest.ensures.joined in
    header_through (fed_of c.args.stage.now) r.fed c.feed.result piece rest goes joined (c.feed.ensures.header p.0)

pub returns-in-Refused-clause-fed : goal.returns-in-Refused-clause-fed
returns-in-Refused-clause-fed g c =
    let reads = checked_of c.args.directory.now in
    (refl, inr (c.take_head-rest.ensures.alike c.args.directory.now c.requires reads ∙ ap (fed_by reads c.take_head-rest.result.now) (ap fed_of c.in-Refused.is)))
