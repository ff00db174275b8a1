-- An importer that is fed a part more of the bytes that digits spell.
use Rattle.std.proofs.Common.{◌≡◌, ◌∙◌, ◌%◌, ℕ, List, [], ◌∷◌, ◌++◌, Result, Ok, Err, ap, append_assoc, append-nil, arith, length, refl, subst, sym}
use Rattle.std.specs.Result.{IsOk}
use Rattle.hex.specs.Hex.{decode_of}
use Rattle.hex.proofs.HexLemmas.{decode_of-ok}
use Rattle.authenticators.specs.Directory.{Listing}
use Rattle.containers.specs.declared.fault.ImportFault.{ImportFault}
use Rattle.containers.specs.CheckedItems.{checked_of}
use Rattle.containers.specs.Refusals.{Refuses}
use Rattle.evidence.specs.Importing.{RefusedPiecesStay, fed_by, import_set}
use Rattle.commands.specs.within.Feeding.{IsFedUpTo}
use Rattle.commands.proofs.Digits.{decoded_parts}
use Rattle.commands.proofs.Pieces.{fed_more, refused_on}

abbrev Told : List ℕ → Result (List ℕ) ImportFault
Told l = Ok l

pub none_left : (bytes : List ℕ) → length bytes ≡ 0 → bytes ≡ []
none_left [] is = refl
none_left (b ∷ bytes) is = absurd (omega arith)

-- all was fed
pub fed_all : (old now : Result (List ℕ) ImportFault) (rest bytes : List ℕ) → rest ≡ [] → IsFedUpTo old now rest bytes → (done : List ℕ) → old ≡ Ok done → now ≡ Ok (done ++ bytes)
fed_all old now rest bytes none is done begun =
    let long = (decode_of-ok rest is.more is.left).2 in
    let empty : is.more ≡ [] = none_left is.more (omega (arith, ap length none, long)) in
    let all : is.so_far ≡ bytes = sym (append-nil is.so_far) ∙ ap (λ (l : List ℕ). is.so_far ++ l) (sym empty) ∙ is.whole in
    is.fed done begun ∙ ap (λ (l : List ℕ). Told (done ++ l)) all

-- the digits that are left are an even number
pub even_left : (old now : Result (List ℕ) ImportFault) (rest bytes : List ℕ) → IsFedUpTo old now rest bytes → length rest % 2 ≡ 0
even_left old now rest bytes is = (decode_of-ok rest is.more is.left).0

regroup : (done so x y after : List ℕ) → (done ++ so) ++ (x ++ (y ++ after)) ≡ (done ++ (so ++ (x ++ y))) ++ after
regroup done so x y after =
    append_assoc done so (x ++ (y ++ after))
    ∙ ap (λ (l : List ℕ). done ++ (so ++ l)) (sym (append_assoc x y after))
    ∙ ap (λ (l : List ℕ). done ++ l) (sym (append_assoc so (x ++ y) after))
    ∙ sym (append_assoc done (so ++ (x ++ y)) after)

module _ (old now : Result (List ℕ) ImportFault) (rest bytes : List ℕ) (is : IsFedUpTo old now rest bytes) (piece left : List ℕ) (split : piece ++ left ≡ rest) (even : length piece % 2 ≡ 0) where
  pub cut : (x : List ℕ) × (y : List ℕ) × (decode_of piece ≡ Ok x) × (decode_of left ≡ Ok y) × (is.more ≡ x ++ y)
  cut = decoded_parts piece left is.more even (ap decode_of split ∙ is.left)

  abbrev pub x : List ℕ
  x = cut.0

  abbrev pub y : List ℕ
  y = cut.1

  pub piece_spells : decode_of piece ≡ Ok x
  piece_spells = cut.2

  both : is.so_far ++ (x ++ y) ≡ bytes
  both = ap (λ (l : List ℕ). is.so_far ++ l) (sym cut.4) ∙ is.whole

  -- a part more was fed, of which it is told what the importer was fed with it
  pub fed_part : (new : Result (List ℕ) ImportFault) → ((done : List ℕ) → now ≡ Ok done → new ≡ Ok (done ++ x)) → IsFedUpTo old new left bytes
  fed_part new more = record {
    so_far = is.so_far ++ x;
    more = y;
    left = cut.3;
    whole = append_assoc is.so_far x y ∙ both;
    fed = λ done begun. more (done ++ is.so_far) (is.fed done begun) ∙ ap Told (append_assoc done is.so_far x);
  }

  -- a part was refused, and so the whole is, whatever follows
  pub part_refused : (ds : Listing) (f : ImportFault) (done after : List ℕ) → old ≡ Ok done → ((before after : List ℕ) → now ≡ Ok before → Refuses f (import_set ds ((before ++ x) ++ after))) → Refuses f (import_set ds ((done ++ bytes) ++ after))
  part_refused ds f done after begun refuses =
      let here = refuses (done ++ is.so_far) (y ++ after) (is.fed done begun) in
      let all : ((done ++ is.so_far) ++ x) ++ (y ++ after) ≡ (done ++ bytes) ++ after =
      append_assoc (done ++ is.so_far) x (y ++ after) ∙ regroup done is.so_far x y after ∙ ap (λ (l : List ℕ). (done ++ l) ++ after) both in
      subst (λ (l : List ℕ). Refuses f (import_set ds l)) all here

-- a piece that is fed
pub piece_fed : (ds : Listing) (now new : Result (List ℕ) ImportFault) (t x : List ℕ) → fed_by (checked_of ds) x now ≡ Ok t → new ≡ Ok t → (done : List ℕ) → now ≡ Ok done → new ≡ Ok (done ++ x)
piece_fed ds now new t x fed is done begun = is ∙ ap Told (sym (fed_more ds done x t now begun fed))

pub piece_refused : RefusedPiecesStay → (ds : Listing) (now : Result (List ℕ) ImportFault) (f : ImportFault) (x : List ℕ) → Refuses f (fed_by (checked_of ds) x now) → (before after : List ℕ) → now ≡ Ok before → Refuses f (import_set ds ((before ++ x) ++ after))
piece_refused law ds now f x refuses before after begun =
    refused_on law ds ((before ++ x) ++ after) before (x ++ after) x after now f begun (sym (append_assoc before x after)) refl refuses

-- digits that spell some bytes
pub spelled : {E : Type 0} (r : Result (List ℕ) E) → IsOk r → (bytes : List ℕ) × (r ≡ Ok bytes)
spelled (Ok bytes) is = (bytes, refl)
spelled (Err e) is = absurd cc

pub spells : {E : Type 0} (r : Result (List ℕ) E) (bytes : List ℕ) → r ≡ Ok bytes → IsOk r
spells r bytes is = rw is refl
