-- A bundle that was made says what is found of it.
use Rattle.std.proofs.Common.{◌≡◌, ◌∙◌, ◌++◌, ◌&&◌, ℕ, Bool, true, false, List, [], refl, sym, ap, subst, cond}
use Rattle.std.specs.Str.{bytes_eq}
use Rattle.std.proofs.lemmas.List.{append-nil}
use Rattle.std.proofs.lemmas.Slice.Eq.{bytes_eq-Decides}
use Rattle.outcome.proofs.Steps.{Ok-inj}
use Rattle.authenticators.specs.Directory.{Listing}
use Rattle.authenticators.specs.declared.fault.DirectoryFault.{DirectoryFault}
use Rattle.item_forms.specs.declared.fault.DecodeFault.{DecodeFault}
use Rattle.replay_verifier.specs.Meaning.{Meaning}
use Rattle.proofs.specs.declared.proof.Parts.{Parts}
use Rattle.proofs.specs.Convicting.{Convicts, ProofsConvictOneNode}
use Rattle.bundles.specs.BundleLaws.{BundlesAreRead}
use Rattle.bundles.specs.Grammar.{bundle_of}
use Rattle.bundling.specs.Convicting.{TextsConvict}
use Rattle.bundling.specs.Handing.{handed}
use Rattle.bundling.specs.Judging.{IsJudged, MadeBundlesAreConfirmed, found, judgement, other_directory, other_program}

-- ---- texts convict one node

same_node : {S : Type 0} → ProofsConvictOneNode S → (program : Meaning S) (directory proof : List ℕ) (i j : ℕ) (x y : Parts) → TextsConvict program directory proof i x → TextsConvict program directory proof j y → i ≡ j
same_node one program directory proof i j x y h k =
    let listing = Ok-inj {A = Listing} {E = DirectoryFault} k.listing h.listing (sym k.is_directory ∙ h.is_directory) in
    let parts = Ok-inj {A = Parts} {E = DecodeFault} y x (sym k.is_proof ∙ h.is_proof) in
    let there = subst (λ (ds : Listing). Convicts ds program j y) listing k.convicts in
    one h.listing program x i j h.convicts (subst (λ (z : Parts). Convicts h.listing program j z) parts there)

-- ---- nothing disagrees with itself

same_bytes : (xs : List ℕ) → bytes_eq xs xs ≡ true
same_bytes xs = (bytes_eq-Decides xs xs).1 refl

no_other : (b : Bool) (text : List ℕ) → b ≡ true → cond b [] text ≡ []
no_other true text h = refl
no_other false text h = absurd cc

nothing_behind : (front a b : List ℕ) → a ≡ [] → b ≡ [] → front ++ a ++ b ≡ front
nothing_behind front a b ha hb = rw (ha, hb) (append-nil (front ++ []) ∙ append-nil front)

both_hold : (a b : Bool) → a ≡ true → b ≡ true → (a && b) ≡ true
both_hold a b ha hb = rw (ha, hb) refl

pub confirmed : {S : Type 0} → BundlesAreRead → ProofsConvictOneNode S → MadeBundlesAreConfirmed S
confirmed read one = λ program name directory proof more text made.
    let b = handed made.node made.parts name directory proof more in
    let judged : (said : List ℕ) (agreed : Bool) → IsJudged program name directory b said agreed → (said ≡ found made.node name directory) × (agreed ≡ true) = λ said agreed j.
    let node = same_node one program directory proof j.node made.node j.parts made.parts j.convicts made.convicts in (
      j.is
          ∙ ap (λ (n : ℕ). judgement n name directory b) node
          ∙ nothing_behind (found made.node name directory) (other_program name name) (other_directory directory directory) (no_other (bytes_eq name name) _ (same_bytes name)) (no_other (bytes_eq directory directory) _ (same_bytes directory)),
      j.same ∙ both_hold (bytes_eq name name) (bytes_eq directory directory) (same_bytes name) (same_bytes directory),
    ) in
    (b, ap (λ (t : List ℕ). bundle_of t) made.is ∙ read.only b made.spelled, refl, refl, refl, judged)
