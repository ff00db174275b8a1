use Rattle.std.proofs.Common.{◌≡◌, ◌∙◌, ◌++◌, List, sym, ap, subst}
use Rattle.std.specs.List.{flat_map}
use Rattle.item_forms.specs.Pieces.{Piece}
use Rattle.evidence_set.specs.Valid.{fields_of}
use Rattle.evidence_set.specs.ItemSets.{Items, insert_all, none}
use Rattle.localities.specs.Shards.{in_turn}
use Rattle.shards.specs.Extracts.{AddsQuotes}
use Rattle.shards.specs.within.Quotes.{quoted_in}
use Rattle.shards.proofs.QuotedLists.{adds_quotes}
use Rattle.shards.proofs.extracting.extracted.Goals as goal

pub returns-clause-quoted : goal.returns-clause-quoted
returns-clause-quoted c =
    let xs = c.args.items.items in
    let qs = c.in_ok-quotes.quotes.items in
    let ds = c.args.directory.now in
    let deal = in_turn c.args.shards in
    let quoted : fields_of qs ≡ flat_map (quoted_in ds deal) (fields_of xs) = c.in_ok-quotes.ensures ∙ ap (λ (ys : List Piece). flat_map (quoted_in ds deal) (fields_of ys)) c.deref.ensures.value in
    let same : insert_all none (xs ++ qs) ≡ insert_all none c.gathered.result.items = ap (insert_all none) (sym c.in_ok-append.ensures.items) ∙ sym c.gathered.ensures.same in
    subst (λ (X : Items). AddsQuotes ds deal (insert_all none xs) X) same
    (adds_quotes c.sets_are_as_expected.ensures c.sets_are_lists.ensures c.lists_what_is_held.ensures c.concerns_as_expected.ensures ds deal xs qs quoted)
