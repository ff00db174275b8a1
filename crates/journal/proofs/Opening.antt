-- The gate before a staged group: what a write of it leaves.
use Rattle.std.proofs.Common.{◌≡◌, ◌≢◌, inl, inr, ℕ, ◌+◌, ◌-◌, ◌≤◌, ◌<◌, List, [], ◌∷◌, ◌++◌, length, get_or, take, drop, refl, sym, ◌∙◌, ap, subst, arith, append_assoc, length-append, length-drop, take-append-drop}
use Rattle.std.proofs.lemmas.List.{take_at, drop_at, drop_more}
use Rattle.std.proofs.lemmas.Bool.{cases_eq}
use Rattle.journal.specs.Device.{Holds, Torn, Follows, Only}
use Rattle.journal.specs.Journal.{recovered, covered, IsBeforeOrAfter, IsAtRest}
use Rattle.journal.specs.declared.blocks.TheConstants.{MOST_GROUP}
use Rattle.journal.proofs.Spelled.{Spells, Parts, parts, spelled_more, any_gate}
use Rattle.journal.proofs.Gate.{torn_front, Gated, parted, gated_stands, gated_length, rests, length-rests}

-- ---- a group

-- its first gate, the rest of its blocks, and the closed gate behind them
pub record Group (group : List ℕ) : Type 0 where
  pub gate : ℕ
  pub tail : List ℕ
  pub is : group ≡ gate ∷ (tail ++ 0 ∷ [])
  pub text : List ℕ
  pub texts : List (List ℕ)
  pub recovered_is : recovered group ≡ text ∷ texts
  pub spelled : Spells (text ∷ texts) (gate ∷ tail)

front_of : (group front : List ℕ) (texts : List (List ℕ)) → recovered group ≡ texts → Spells texts front → group ≡ front ++ 0 ∷ [] → 1 < length group → Group group
front_of group front [] are s is long = absurd (omega (arith, long, ap length is, length-append front (0 ∷ []), ap length s))
front_of group [] (text ∷ texts) are s is long = absurd (omega (arith, ap length s.is))
front_of group (gate ∷ tail) (text ∷ texts) are s is long = record { gate = gate; tail = tail; is = is; text = text; texts = texts; recovered_is = are; spelled = s }

pub group_parts : (group : List ℕ) → IsAtRest group → 1 < length group → Group group
group_parts group rest long =
    let gated = rests group (covered group) refl rest in
    let none : gated.behind ≡ [] = no_more gated.behind (omega (arith, length-rests group (covered group) refl rest, gated_length (recovered group) (covered group) group gated)) in
    front_of group gated.front (recovered group) refl gated.spelled (gated.is ∙ ap (λ (l : List ℕ). gated.front ++ 0 ∷ l) none) long
  where
    no_more : (l : List ℕ) → length l ≡ 0 → l ≡ []
    no_more [] is = refl
    no_more (x ∷ l) is = absurd (omega arith)

-- ---- a staged group behind the blocks of a file

module _ (file group : List ℕ) (end : ℕ) (ends : end ≡ covered file) (staged : drop end file ≡ 0 ∷ drop 1 group) (rest : IsAtRest group) (long : 1 < length group) (few : length group ≤ 1 + MOST_GROUP) where
  abbrev p : Parts file
  p = parts file

  abbrev x : Group group
  x = group_parts group rest long

  size : length p.front ≡ end
  size = parted file end p ends

  file_is : file ≡ p.front ++ 0 ∷ drop 1 group
  file_is = p.split ∙ ap (λ (l : List ℕ). p.front ++ l) (sym (ap (λ (l : List ℕ). drop end l) p.split ∙ drop_at p.front p.end end size) ∙ staged)

  tail_is : drop 1 group ≡ x.tail ++ 0 ∷ []
  tail_is = ap (λ (l : List ℕ). drop 1 l) x.is

  length-tail : length (drop 1 group) ≡ length x.tail + 1
  length-tail = omega (arith, ap length tail_is, length-append x.tail (0 ∷ []))

  -- a gate that is closed
  pub before_gate : (c : List ℕ) → c ≡ p.front ++ 0 ∷ drop 1 group → Gated (recovered file) end c
  before_gate c is = record { front = p.front; behind = drop 1 group; is = is; spelled = p.spelled; size = size }

  -- a gate that is open
  pub after_gate : (gate : ℕ) (c : List ℕ) → gate ≢ 0 → c ≡ p.front ++ gate ∷ drop 1 group → Gated (recovered file ++ recovered group) (end + (length group - 1)) c
  after_gate gate c is_open is = record {
    front = p.front ++ gate ∷ x.tail;
    behind = [];
    is = is ∙ ap (λ (l : List ℕ). p.front ++ gate ∷ l) tail_is ∙ sym (append_assoc p.front (gate ∷ x.tail) (0 ∷ []));
    spelled = subst (λ (l : List (List ℕ)). Spells (recovered file ++ l) (p.front ++ gate ∷ x.tail)) (sym x.recovered_is)
        (spelled_more (recovered file) (x.text ∷ x.texts) p.front (gate ∷ x.tail) p.spelled (any_gate x.text x.texts x.gate gate x.tail x.spelled is_open));
    size = omega (arith, length-append p.front (gate ∷ x.tail), size, length-tail, length-drop 1 group, long);
  }

  length-any : (gate : ℕ) (c : List ℕ) → c ≡ p.front ++ gate ∷ drop 1 group → length c ≡ end + length group
  length-any gate c is = omega (arith, ap length is, length-append p.front (gate ∷ drop 1 group), size, length-drop 1 group, long)

  pub any_outcome : (gate : ℕ) (c : List ℕ) → c ≡ p.front ++ gate ∷ drop 1 group → IsBeforeOrAfter (recovered file) (recovered group) c
  any_outcome gate c is = elim (cases_eq gate 0) [
    | inl shut ↦
        let closed : c ≡ p.front ++ 0 ∷ drop 1 group = is ∙ ap (λ (g : ℕ). p.front ++ g ∷ drop 1 group) shut in
        inl (gated_stands (recovered file) end c (before_gate c closed) (omega (arith, length-any gate c is, few)))
    | inr is_open ↦ inr (gated_stands (recovered file ++ recovered group) (end + (length group - 1)) c (after_gate gate c is_open is) (omega (arith, length-any gate c is, long)))
  ]

  pub torn_gate : (c : List ℕ) → Torn end 1 file c → IsBeforeOrAfter (recovered file) (recovered group) c
  torn_gate c torn =
      let gate = get_or c end 0 in
      let back : drop (end + 1) c ≡ drop 1 group = torn.after ∙ dropped in
      let tail : drop end c ≡ gate ∷ drop 1 group = drop_more c end 0 (omega (arith, torn.no_shorter, length-any 0 file file_is, long)) ∙ ap (λ (l : List ℕ). gate ∷ l) back in
      let front : take end c ≡ p.front = torn_front end 1 file c (omega (arith, length-any 0 file file_is)) torn ∙ ap (λ (l : List ℕ). take end l) file_is ∙ take_at p.front (0 ∷ drop 1 group) end size in
      any_outcome gate c (sym (take-append-drop end c) ∙ ap (λ (l : List ℕ). l ++ drop end c) front ∙ ap (λ (l : List ℕ). p.front ++ l) tail)
    where
      dropped : drop (end + 1) file ≡ drop 1 group
      dropped = ap (λ (l : List ℕ). drop (end + 1) l) (file_is ∙ sym (append_assoc p.front (0 ∷ []) (drop 1 group)))
          ∙ drop_at (p.front ++ 0 ∷ []) (drop 1 group) (end + 1) (omega (arith, length-append p.front (0 ∷ []), size))

  pub each_outcome : (old new : List ℕ → Type 0) → Only file old → Follows (Torn end 1) old new → (c : List ℕ) → new c → IsBeforeOrAfter (recovered file) (recovered group) c
  each_outcome old new only follows c left =
      let from = follows c left in
      torn_gate c (subst (λ d. Torn end 1 d c) (only from.0 from.1) from.2)

  pub first_outcome : (c : List ℕ) → c ≡ file → IsBeforeOrAfter (recovered file) (recovered group) c
  first_outcome c is = any_outcome 0 c (is ∙ file_is)

  pub opened : (c : List ℕ) → Holds file end (255 ∷ []) c → Gated (recovered file ++ recovered group) (end + (length group - 1)) c × (length c ≡ end + (length group - 1) + 1)
  opened c holds =
      let front : take end file ≡ p.front = ap (λ (l : List ℕ). take end l) file_is ∙ take_at p.front (0 ∷ drop 1 group) end size in
      let back : drop (end + 1) file ≡ drop 1 group = ap (λ (l : List ℕ). drop (end + 1) l) (file_is ∙ sym (append_assoc p.front (0 ∷ []) (drop 1 group)))
      ∙ drop_at (p.front ++ 0 ∷ []) (drop 1 group) (end + 1) (omega (arith, length-append p.front (0 ∷ []), size)) in
      let is : c ≡ p.front ++ 255 ∷ drop 1 group =
      holds
      ∙ ap (λ (l : List ℕ). l ++ (255 ∷ []) ++ drop (end + 1) file) front
      ∙ ap (λ (l : List ℕ). p.front ++ (255 ∷ []) ++ l) back
      ∙ append_assoc p.front (255 ∷ []) (drop 1 group) in
      (after_gate 255 c (omega arith) is, omega (arith, length-any 255 c is, long))
