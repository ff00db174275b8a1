use Rattle.std.proofs.Common.{ℕ, List, ap, ◌∙◌, arith}
use Rattle.std.specs.Str.{bytes_eq}
use Rattle.kept_entries.specs.Shared.{SharedEntry, entries_of, hashes_of}
use Rattle.proofs.proofs.Lookups.{answer_hash, answer_none}
use Rattle.kept_items.proofs.Entries.{as_many, hash_at}
use Rattle.kept_items.proofs.lookup.finds_pair.Goals as goal

pub bounds-handles-place : goal.bounds-handles-place
bounds-handles-place c =
    let many = as_many c.args.handles.now in
    let within = c.in-Some.ensures.stands.within in
    omega (arith, many, within)

pub returns-in-None : goal.returns-in-None
returns-in-None c = answer_none c.args.prev (entries_of c.args.handles.now) c.args.seq c.args.hash c.in-None.ensures.has

pub returns-in-Some : goal.returns-in-Some
returns-in-Some c =
    let xs = c.args.handles.now in
    let x = c.index-handles-place.result in
    c.eq.ensures
    ∙ ap (λ (h : List ℕ). bytes_eq h c.args.hash) c.hash.ensures
    ∙ ap (λ (y : SharedEntry). bytes_eq y.hash c.args.hash) c.get.ensures
    ∙ answer_hash c.rises_by_pairs.ensures c.args.prev (entries_of xs) (hashes_of xs) c.args.seq c.in-Some.place c.args.hash x.hash c.requires.hashed c.requires.rising c.in-Some.ensures.stands (hash_at xs c.in-Some.place x c.index-handles-place.is)
