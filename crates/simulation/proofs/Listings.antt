-- A node that is listed with its two keys, one after the other.
use Rattle.std.proofs.Common.{◌≡◌, ◌∙◌, ℕ, Bool, true, false, cond, List, [], ◌∷◌, ◌++◌, Result, Ok, Err, Some, ap, length, refl, sym, eq-eqb}
use Rattle.std.specs.Prelude.{is_some, nat_eq, nat_lt}
use Rattle.std.specs.Map.{lookup}
use Rattle.outcome.specs.Outcome.{◌>>=◌}
use Rattle.lms_sign.specs.declared.key.PublicKey.{PublicKey}
use Rattle.authenticators.specs.declared.directory.TheConstants.{MOST_NODES}
use Rattle.authenticators.specs.declared.fault.DirectoryFault.{DirectoryFault}
use Rattle.authenticators.specs.declared.fault.DirectoryFault.TheVariants as faults
use Rattle.authenticators.specs.Directory.{Listing, added, is_listed, key_added, keys_at, keys_beside, some_known, with_key}

-- the directory with the node at its end
abbrev with_node : Listing → ℕ → List PublicKey → Listing
with_node ds node keys = ds ++ (node, keys) ∷ []

is_new : (a b c : Bool) (d more : Listing) → cond a (Err faults.DuplicateNode) (cond b (Err faults.DuplicateKey) (cond c (Ok d) (Err faults.TooManyNodes))) ≡ Ok more → (a ≡ false) × (d ≡ more)
is_new true b c d more e = absurd cc
is_new false true c d more e = absurd cc
is_new false false true d more e = (refl, cc)
is_new false false false d more e = absurd cc

new_node : (ds more : Listing) (node : ℕ) (keys : List PublicKey) → added ds node keys ≡ Ok more → (is_listed ds node ≡ false) × (with_node ds node keys ≡ more)
new_node ds more node keys e = is_new (is_listed ds node) (some_known ds [] keys) (nat_lt (length ds) MOST_NODES) (with_node ds node keys) more e

abbrev With : Listing → ℕ → Result (Listing × ℕ) DirectoryFault
With d n = Ok (d, n)

then_with : (r : Result (List PublicKey) DirectoryFault) (d more : Listing) (n : ℕ) → (r >>= λ keys. With d (length keys)) ≡ With more n → d ≡ more
then_with (Ok keys) d more n e =
    let pairs : ◌≡◌ {A = Listing × ℕ} (d, length keys) (more, n) = cc in
    ap (λ (p : Listing × ℕ). p.0) pairs
then_with (Err f) d more n e = absurd cc

eqb-same : (n : ℕ) → nat_eq n n ≡ true
eqb-same n = eq-eqb n n refl

-- the key is added behind the node's own, at the end
at_the_end : (ds : Listing) (node : ℕ) (first second : PublicKey) → is_listed ds node ≡ false → with_key (with_node ds node (first ∷ [])) node second ≡ with_node ds node (first ∷ second ∷ [])
at_the_end [] node first second new = ap (λ (b : Bool). cond b ((node, first ∷ second ∷ []) ∷ []) ((node, first ∷ []) ∷ [])) (eqb-same node)
at_the_end (p ∷ ps) node first second new = go (nat_eq node p.0) new (at_the_end ps node first second)
  where
    go : (b : Bool) → is_some (cond b (Some p.1) (lookup (nat_eq node) ps)) ≡ false → (is_listed ps node ≡ false → with_key (with_node ps node (first ∷ [])) node second ≡ with_node ps node (first ∷ second ∷ []))
        → cond b ((p.0, p.1 ++ second ∷ []) ∷ with_node ps node (first ∷ [])) (p ∷ with_key (with_node ps node (first ∷ [])) node second) ≡ p ∷ with_node ps node (first ∷ second ∷ [])
    go true new more = absurd cc
    go false new more = ap (λ (l : Listing). p ∷ l) (more new)

pub listed_twice : (ds one two : Listing) (node n : ℕ) (first second : PublicKey) → added ds node (first ∷ []) ≡ Ok one → key_added one node second ≡ Ok (two, n) → two ≡ with_node ds node (first ∷ second ∷ [])
listed_twice ds one two node n first second began more =
    let new = new_node ds one node (first ∷ []) began in
    let is : with_key one node second ≡ two = then_with (keys_beside one second (keys_at one node)) (with_key one node second) two n more in
    sym is ∙ ap (λ (l : Listing). with_key l node second) (sym new.1) ∙ at_the_end ds node first second new.0
