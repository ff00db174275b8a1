-- Eight signatures side by side: what is written for one more of them, and the nodes above the leaves.
use Rattle.std.proofs.Common.{◌≡◌, ◌≢◌, ℕ, ◌+◌, ◌*◌, ◌/◌, ◌%◌, ◌^◌, ◌<◌, Bool, true, false, inl, inr, zero, suc, ap₂, map, ◌∷◌, ◌++◌, ◌≤◌, List, [], take, drop, length, slice_index_or, slice_set, subst, sym, ap, refl, arith, below_more, ne_eqb, ◌∙◌}
use Rattle.std.specs.Prelude.{◌↔◌}
use Rattle.std.proofs.Math.Seq.{take-add}
use Rattle.std.proofs.lemmas.Bool.{cases_lt}
use Rattle.std.proofs.lemmas.List.{map-append, drop-drop, get_or_default, get_or-set_other, get_or-set_same}
use Rattle.lms_sign.specs.declared.signed.Signed.{Signed}
use Rattle.lms_sign.specs.declared.side_by_side.TheConstants.{ROOM}
use Rattle.lms_sign.specs.declared.types.OtsType.{OtsType}
use Rattle.lms_sign.specs.declared.types.LmsType.TheVariants.{H5}
use Rattle.lms_sign.specs.declared.types.OtsType.TheVariants.{W1}
use Rattle.lms_sign.specs.MerkleTree.{ancestor, inner_hash, leaf_hash}
use Rattle.lms_sign.specs.Numbers.{hash_at}
use Rattle.lms_sign.specs.Parameters.{chain_count, height}
use Rattle.lms_sign.specs.SignedMessages.{is_signed}
use Rattle.lms_sign.specs.within.Eights.{HasForm, IsGroup, IsLike, hash_above, key_of, node_of}
use Rattle.lms_sign.proofs.Decisions.{same_test}
use Rattle.lms_sign.proofs.Paths.{ancestor-more}

-- no signature, for reads at any place
abbrev pub no_signed : Signed
no_signed = record {
  key = record { ref_ptr = (0, 0); now = record { lms_type = H5; ots_type = W1; id = []; root = [] } };
  message = record { ref_ptr = (0, 0); now = [] };
  signature = record { ref_ptr = (0, 0); now = [] };
}

-- what holds of an element holds of it, whatever stands for those that are not there
pub at_any : (P : Signed → Type 0) (group : List Signed) (j : ℕ) (d : Signed) → j < length group → P (slice_index_or group j no_signed) → P (slice_index_or group j d)
at_any P group j d lt = subst P (get_or_default group j no_signed d lt)

-- one more element is written
pub one_more : {X : Type 0} (P : ℕ → X → Type 0) (e : X) (xs : List X) (j : ℕ) (x : X) → j < length xs → ((k : ℕ) → k < j → P k (slice_index_or xs k e)) → P j x
    → (k : ℕ) → k < j + 1 → P k (slice_index_or (slice_set xs j x) k e)
one_more P e xs j x lt before here =
    below_more (λ k. P k (slice_index_or (slice_set xs j x) k e)) j
    (λ k less.
    let other : k ≢ j = omega arith in
    subst (P k) (sym (get_or-set_other xs j k x e other)) (before k less))
    (subst (P j) (sym (get_or-set_same xs j x e lt)) here)

-- the leaf's own hash
pub leaf_above : (s : Signed) → leaf_hash s.key.now.id (node_of s) (key_of s) ≡ hash_above s 0
unfolding ancestor
leaf_above s = refl

-- the other child's hash, in the signature and in its path
sibling_at : (s : Signed) (k n : ℕ) → n ≡ chain_count s.key.now.ots_type
    → hash_at s.signature.now (44 + 32 * n + 32 * k) ≡ hash_at (drop (44 + 32 * chain_count s.key.now.ots_type) s.signature.now) (32 * k)
sibling_at s k n is = rw is (ap (take 32) (sym (drop-drop (32 * k) (44 + 32 * chain_count s.key.now.ots_type) s.signature.now)))

-- a node whose number is odd is the right child
pub right_above : (s : Signed) (k n r : ℕ) (sibling hash : List ℕ) → r ≡ node_of s → r / 2 ^ k % 2 ≡ 1 → n ≡ chain_count s.key.now.ots_type
    → sibling ≡ hash_at s.signature.now (44 + 32 * n + 32 * k) → hash ≡ hash_above s k → inner_hash s.key.now.id (r / 2 ^ k / 2) sibling hash ≡ hash_above s (k + 1)
right_above s k n r sibling hash node odd count at below =
    let more = ancestor-more s.key.now.id (drop (44 + 32 * chain_count s.key.now.ots_type) s.signature.now) (node_of s) (leaf_hash s.key.now.id (node_of s) (key_of s)) k (r / 2 ^ k) (ap (λ (m : ℕ). m / 2 ^ k) node) in
    rw (at ∙ sibling_at s k n count, below) (sym (rw odd at more))

-- another is the left child
pub left_above : (s : Signed) (k n r : ℕ) (sibling hash : List ℕ) → r ≡ node_of s → (r / 2 ^ k % 2 ≡ 1 → ⊥) → n ≡ chain_count s.key.now.ots_type
    → sibling ≡ hash_at s.signature.now (44 + 32 * n + 32 * k) → hash ≡ hash_above s k → inner_hash s.key.now.id (r / 2 ^ k / 2) hash sibling ≡ hash_above s (k + 1)
left_above s k n r sibling hash node even count at below =
    let more = ancestor-more s.key.now.id (drop (44 + 32 * chain_count s.key.now.ots_type) s.signature.now) (node_of s) (leaf_hash s.key.now.id (node_of s) (key_of s)) k (r / 2 ^ k) (ap (λ (m : ℕ). m / 2 ^ k) node) in
    rw (at ∙ sibling_at s k n count, below) (sym (rw (ne_eqb _ _ even) at more))

-- bytes of the form of a signature are one exactly where their root is the key's
pub formed_signed : (s : Signed) (answer : Bool) → HasForm s.key.now s.signature.now → (answer ≡ true) ↔ (hash_above s (height s.key.now.lms_type) ≡ s.key.now.root) → answer ≡ is_signed s
formed_signed s answer form exact =
    same_test s.key.now s.message.now s.signature.now answer (
      λ yes. record { len = form.len; leaf = form.leaf; ots_type = form.ots_type; lms_type = form.lms_type; root = exact.0 yes },
      λ v. exact.1 v.root,
    )

-- ---- groups

-- each lane of a group has what is like the first
each_like : (signed group : List Signed) (count : ℕ) → 0 < count → count ≤ length signed
    → ((j : ℕ) (d : Signed) → j < count → IsLike (slice_index_or signed 0 d) (slice_index_or signed j d))
    → ((j : ℕ) (d : Signed) → j < 8 → j < count → slice_index_or group j d ≡ slice_index_or signed j d)
    → ((j : ℕ) (d : Signed) → j < 8 → count ≤ j → slice_index_or group j d ≡ slice_index_or signed 0 d)
    → (j : ℕ) (d : Signed) → j < 8 → IsLike (slice_index_or signed 0 no_signed) (slice_index_or group j d)
each_like signed group count some fits like own others j d low =
    let first = get_or_default signed 0 d no_signed (omega arith) in
    elim (cases_lt j count) [
      | inl less ↦ subst (λ x. IsLike (slice_index_or signed 0 no_signed) x) (sym (own j d low less)) (subst (λ f. IsLike f (slice_index_or signed j d)) first (like j d less))
      | inr le ↦ subst (λ x. IsLike (slice_index_or signed 0 no_signed) x) (sym (others j d low le)) (subst (λ f. IsLike f (slice_index_or signed 0 d)) first (like 0 d some))
    ]

-- so they are a group
pub is_group : (signed group : List Signed) (count : ℕ) → 0 < count → count ≤ length signed
    → ((j : ℕ) (d : Signed) → j < count → IsLike (slice_index_or signed 0 d) (slice_index_or signed j d))
    → ((j : ℕ) (d : Signed) → j < 8 → j < count → slice_index_or group j d ≡ slice_index_or signed j d)
    → ((j : ℕ) (d : Signed) → j < 8 → count ≤ j → slice_index_or group j d ≡ slice_index_or signed 0 d)
    → (ots : OtsType) × ((n : ℕ) × (IsGroup ots n group × (54 + n ≤ ROOM)))
is_group signed group count some fits like own others =
    let first : Signed = slice_index_or signed 0 no_signed in
    let each = each_like signed group count some fits like own others in
    let one = each 0 no_signed (omega arith) in
    let room : 54 + length first.message.now ≤ ROOM = omega (arith, one.room, one.len) in (
      first.key.now.ots_type,
      (
        length first.message.now,
        (record { form = λ j d low. (each j d low).form; ots_type = λ j d low. (each j d low).ots_type; len = λ j d low. (each j d low).len }, room),
      ),
    )

-- the answers for the first n
pub answers_are : (n : ℕ) (answers : List Bool) (signed : List Signed) → n ≤ length answers → n ≤ length signed
    → ((j : ℕ) → j < n → slice_index_or answers j false ≡ is_signed (slice_index_or signed j no_signed)) → take n answers ≡ map is_signed (take n signed)
answers_are zero answers signed la ls each = refl
answers_are (suc n) [] signed la ls each = absurd (omega arith)
answers_are (suc n) (a ∷ answers) [] la ls each = absurd (omega arith)
answers_are (suc n) (a ∷ answers) (s ∷ signed) la ls each =
    ap₂ (λ (x : Bool) (xs : List Bool). x ∷ xs) (each 0 (omega arith)) (answers_are n answers signed (omega arith) (omega arith) (λ j lt. each (suc j) (omega arith)))

-- and for the next k
pub answers_more : (signed rest : List Signed) (answers : List Bool) (n k : ℕ) → rest ≡ drop n signed → answers ≡ map is_signed (take n signed)
    → answers ++ map is_signed (take k rest) ≡ map is_signed (take (n + k) signed)
answers_more signed rest answers n k behind held =
    rw (held, behind, take-add n k signed) (sym (map-append is_signed (take n signed) (take k (drop n signed))))
