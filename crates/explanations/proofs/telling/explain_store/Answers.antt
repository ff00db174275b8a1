use Rattle.std.proofs.Common.{◌≡◌, ◌++◌, List, ℕ, length, string_bytes, subst}
use Rattle.std.specs.Prelude.{count_by}
use Rattle.evidence_set.specs.declared.indication.Indication.TheVariants.{Exposed, Suspected, Trusted}
use Rattle.sentences.specs.declared.explanation.Explanation.{Explanation}
use Rattle.explanations.specs.Headings.{heading_words}
use Rattle.explanations.specs.declared.why.NodeWhy.{NodeWhy}
use Rattle.explanations.specs.within.Telling.{AreTold, is_row}
use Rattle.explanations.proofs.Rows.{all_grounded, all_marked, headed, told_are}
use Rattle.explanations.proofs.telling.explain_store.Goals as goal

pub returns : goal.returns
returns g c =
    let s = g.S.Evidence.contents c.args.store.now in
    let rows = c.in_ok-whys.whys.items in
    let e : Explanation = record { heading = c.in_ok-heading.heading; nodes = c.in_ok-nodes.nodes } in
    let told = subst (λ (rs : List NodeWhy). AreTold rs c.in_ok-nodes.nodes.items) c.deref-3.ensures.value c.in_ok-nodes.ensures in
    let words = subst (λ (rs : List NodeWhy). (behind : List ℕ) × (string_bytes c.in_ok-heading.heading ≡ heading_words (length rs) (count_by (is_row Trusted) rs) (count_by (is_row Suspected) rs) (count_by (is_row Exposed) rs) c.count.result ++ behind)) c.deref-2.ensures.value c.in_ok-heading.ensures in
    let counted = subst (λ (n : ℕ). (behind : List ℕ) × (string_bytes c.in_ok-heading.heading ≡ heading_words (length rows) (count_by (is_row Trusted) rows) (count_by (is_row Suspected) rows) (count_by (is_row Exposed) rows) n ++ behind)) c.count.ensures words in
    record {
      headed = headed s.items rows e told counted;
      indicated = told_are g.P.Program.means s rows c.in_ok-nodes.nodes.items c.in_ok-whys.ensures told;
      grounded = all_grounded g.P.Program.means s rows c.in_ok-nodes.nodes.items c.in_ok-whys.ensures told;
      marked = all_marked g.P.Program.means s rows c.in_ok-nodes.nodes.items c.in_ok-whys.ensures told;
    }
