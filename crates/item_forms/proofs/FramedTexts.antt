-- The texts of items behind their lengths: what is read is spelled so, and what is spelled so is read.
use Rattle.std.proofs.Common.{◌≡◌, ℕ, ◌+◌, ◌≤◌, Bool, false, cond, eqb, List, length, Option, Some, None, Result, Ok, Err, refl, sym, ap, subst, ◌∙◌, arith, lit<}
use Rattle.std.specs.Prelude.{not}
use Rattle.std.specs.Int.{w32, to_be_bytes}
use Rattle.std.proofs.lemmas.Bool.{eqb-true, eq-eqb, not-false}
use Rattle.std.proofs.lemmas.List.{length-append}
use Rattle.outcome.specs.Outcome.{◌>>=◌, told_as}
use Rattle.outcome.proofs.ByteLists.{spelled_in_four}
use Rattle.outcome.proofs.Steps.{bind_ok, guard_false, Ok-inj}
use Rattle.log_chain.specs.declared.fault.FieldFault.{FieldFault}
use Rattle.log_chain.specs.Fields.{Read, IsBytesUpTo, bytes_at, bytes_text}
use Rattle.log_chain.proofs.Codec.{IsField, Takes, told}
use Rattle.log_chain.proofs.FieldKinds.{bytes_again, bytes_field}
use Rattle.item_forms.specs.declared.fault.DecodeFault.{DecodeFault}
use Rattle.item_forms.specs.declared.fault.DecodeFault.TheVariants.{BadTag}
use Rattle.item_forms.specs.declared.forms.Fields.{Fields}
use Rattle.item_forms.specs.declared.forms.Fields.TheVariants as form
use Rattle.item_forms.specs.declared.limits.TheConstants.{LONGEST_ITEM}
use Rattle.item_forms.specs.FramedItems.{HasTag, framed, framed_at, is_other_tag, tagged_item_of}
use Rattle.item_forms.specs.Reading.{item_of}
use Rattle.item_forms.specs.Refusals.{of_field}
use Rattle.item_forms.specs.Spelling.{Fits, spelling}
use Rattle.item_forms.specs.SpellingLaws.{SpellingsAreShort}
use Rattle.item_forms.proofs.ItemTexts.{item_texts}

-- ---- tags

same_number : (a b : ℕ) → not (eqb a b) ≡ false → a ≡ b
same_number a b h = eqb-true a b (not-false (eqb a b) h)

has_tag : (wanted : Option ℕ) (x : Fields) → is_other_tag wanted (spelling x) ≡ false → HasTag wanted x
has_tag None x h = tt
has_tag (Some tag) (form.Auth a) h = same_number 1 tag h
has_tag (Some tag) (form.Segment s) h = same_number 2 tag h
has_tag (Some tag) (form.Audit c) h = same_number 3 tag h
has_tag (Some tag) (form.Send m) h = same_number 4 tag h
has_tag (Some tag) (form.Ack a) h = same_number 5 tag h

no_other : (a b : ℕ) → a ≡ b → not (eqb a b) ≡ false
no_other a b h = ap not (eq-eqb a b h)

tag_had : (wanted : Option ℕ) (x : Fields) → HasTag wanted x → is_other_tag wanted (spelling x) ≡ false
tag_had None x h = refl
tag_had (Some tag) (form.Auth a) h = no_other 1 tag h
tag_had (Some tag) (form.Segment s) h = no_other 2 tag h
tag_had (Some tag) (form.Audit c) h = no_other 3 tag h
tag_had (Some tag) (form.Send m) h = no_other 4 tag h
tag_had (Some tag) (form.Ack a) h = no_other 5 tag h

-- ---- bodies

abbrev pub FitsAs : Option ℕ → Fields → Type 0
FitsAs wanted x = HasTag wanted x × Fits x

body_read : (wanted : Option ℕ) (body : List ℕ) (x : Fields) → IsBytesUpTo LONGEST_ITEM body → tagged_item_of wanted body ≡ Ok x → (spelling x ≡ body) × FitsAs wanted x
body_read wanted body x fits e =
    let g = guard_false (is_other_tag wanted body) BadTag (item_of body) x e in
    let t = item_texts.takes body x fits.each g.1 in
    (sym t.0, (has_tag wanted x (ap (is_other_tag wanted) (sym t.0) ∙ g.0), t.1))

body_again : (wanted : Option ℕ) (x : Fields) → FitsAs wanted x → tagged_item_of wanted (spelling x) ≡ Ok x
body_again wanted x fits =
    ap (λ (b : Bool). cond b (Err BadTag) (item_of (spelling x))) (tag_had wanted x fits.0) ∙ item_texts.again x fits.1

abbrev body_at : List ℕ → Read (List ℕ) DecodeFault
body_at bytes = told_as of_field (bytes_at LONGEST_ITEM bytes)

body : IsField body_at bytes_text (IsBytesUpTo LONGEST_ITEM)
body = told of_field (bytes_field LONGEST_ITEM (lit< tt))

-- ---- with their lengths

pub framed_field : SpellingsAreShort → (wanted : Option ℕ) → IsField (framed_at wanted) framed (FitsAs wanted)
unfolding framed_at
framed_field short wanted = record {
  takes = λ bytes x rest fits e.
      let b = bind_ok (body_at bytes) (λ r. tagged_item_of wanted r.0 >>= λ z. Ok (z, r.1)) (x, rest) e in
      let c = bind_ok (tagged_item_of wanted b.0.0) (λ z. Ok (z, b.0.1)) (x, rest) b.2 in
      let t = body.takes bytes b.0.0 b.0.1 fits b.1 in
      let u = body_read wanted b.0.0 c.0 t.1 c.1 in
      let front : Takes bytes (framed c.0) b.0.1 = subst (λ (y : List ℕ). Takes bytes (bytes_text y) b.0.1) (sym u.0) t.0 in
      subst (λ (p : Fields × List ℕ). Takes bytes (framed p.0) p.1 × FitsAs wanted p.0) (Ok-inj {E = DecodeFault} (c.0, b.0.1) (x, rest) c.2) (front, u.1);
  again = λ x rest fits.
      ap (λ (r : Read (List ℕ) FieldFault). told_as of_field r >>= λ r. tagged_item_of wanted r.0 >>= λ z. let read : Read Fields DecodeFault = Ok (z, r.1) in read) (bytes_again LONGEST_ITEM (spelling x) rest (lit< tt) (short.most (record { fields = x; fits = fits.1 })))
      ∙ ap (λ (turned : Result Fields DecodeFault). turned >>= λ z. let read : Read Fields DecodeFault = Ok (z, rest) in read) (body_again wanted x fits);
}

-- ---- how long they are

pub framed_length : (x : Fields) → length (framed x) ≡ 4 + length (spelling x)
framed_length x = omega (arith, length-append (to_be_bytes w32 (length (spelling x))) (spelling x), spelled_in_four.len (length (spelling x)))

-- what is measured of an item that fits is within the limit
pub framed_short : SpellingsAreShort → (x : Fields) → Fits x → (n : ℕ) → n ≡ length (spelling x) → n ≤ LONGEST_ITEM
framed_short short x fits n is = let most = short.most (record { fields = x; fits = fits }) in omega (arith, is, most)

-- ---- step by step

-- an item is read where its length and its body are, and the body is of the wanted form
pub framed_is : (wanted : Option ℕ) (bytes ahead body after : List ℕ) (x : Fields) → ahead ≡ bytes → bytes_at LONGEST_ITEM ahead ≡ Ok (body, after) → is_other_tag wanted body ≡ false → item_of body ≡ Ok x
    → framed_at wanted bytes ≡ Ok (x, after)
unfolding framed_at
framed_is wanted bytes ahead body after x same length_is tag read = rw (sym same, length_is, tag, read) refl
