-- Each coding of Codings keeps the laws of IsCoding.
use Rattle.std.proofs.Common.{◌≡◌, ℕ, ◌*◌, ◌<◌, ◌≤◌, ◌^◌, List, [], ◌∷◌, length, refl, arith, length-append}
use Rattle.std.proofs.Math.Nat.{mul-le-mul_right}
use Rattle.std.specs.Int.{w32, to_be_bytes}
use Rattle.std.specs.List.{flat_map, AllByRecursion}
use Rattle.std.proofs.lemmas.List.Concat.{flat_map-cons}
use Rattle.std.proofs.lemmas.List.Elements.{recursion_from_All}
use Rattle.log_chain.specs.Fields.{IsBytesUpTo, IsListUpTo}
use Rattle.log_chain.proofs.Codec.{IsField, told, both, struct_of}
use Rattle.log_chain.proofs.FieldKinds.{u8_field, u32_field, u64_field, bytes_field}
use Rattle.log_chain.proofs.ListFields.{counted_field}
use Rattle.state_codec.specs.Codings.{Coding, IsCoding, IsU8, IsU32, IsU64, IsPair, IsStruct, of_field, u8_coding, u8_text, u32_text, u64_text, string_text, list_text, u32_coding, u64_coding, text_coding, pair_coding, list_coding, struct_at, struct_coding}

-- ---- a coding is a field, and `log_chain` makes formats of fields

-- A coding is a field.
pub as_field : {A : Type 0} {c : Coding A} {Fits : A → Type 0} → IsCoding c Fits → IsField c.at c.text Fits
as_field one = record {
  takes = λ bytes x rest fits e. let t = one.takes bytes x rest fits e in (record { parts = t.0; rest_fits = t.2 }, t.1);
  again = one.again;
}

as_coding : {A : Type 0} {c : Coding A} {Fits : A → Type 0} → IsField c.at c.text Fits → ((x : A) → Fits x → length (c.text x) ≤ c.longest) → IsCoding c Fits
as_coding field short = record {
  takes = λ bytes x rest fits e. let t = field.takes bytes x rest fits e in (t.0.parts, t.1, t.0.rest_fits);
  again = field.again;
  short = short;
}

-- ---- each kind

-- Numbers of one byte keep the laws.
pub u8_lawful : IsCoding u8_coding IsU8
unfolding u8_text
u8_lawful = as_coding (told of_field u8_field) (λ n fits. omega arith)

-- Numbers of four bytes keep the laws.
pub u32_lawful : IsCoding u32_coding IsU32
unfolding u32_text
u32_lawful = as_coding (told of_field u32_field) (λ n fits. omega arith)

-- Numbers of eight bytes keep the laws.
pub u64_lawful : IsCoding u64_coding IsU64
unfolding u64_text
u64_lawful = as_coding (told of_field u64_field) (λ n fits. omega arith)

-- Byte strings keep the laws, if their limit is below 2^32.
pub text_lawful : (most : ℕ) → most < 2 ^ 32 → IsCoding (text_coding most) (IsBytesUpTo most)
unfolding string_text
text_lawful most small =
    as_coding (told of_field (bytes_field most small))
    (λ text fits. omega (arith, length-append (to_be_bytes w32 (length text)) text, fits.count))

-- Pairs keep the laws, if both parts do.
pub pair_lawful : {A B : Type 0} {a : Coding A} {b : Coding B} {FitsA : A → Type 0} {FitsB : B → Type 0}
    → IsCoding a FitsA → IsCoding b FitsB → IsCoding (pair_coding a b) (IsPair FitsA FitsB)
pair_lawful {a = a} {b = b} first second =
    as_coding (both (as_field first) (as_field second))
    (λ p fits. omega (arith, length-append (a.text p.0) (b.text p.1), first.short p.0 fits.0, second.short p.1 fits.1))

-- The texts of items together are no longer than that many times the longest of an item.
each_short : {A : Type 0} (a : Coding A) (Fits : A → Type 0) → IsCoding a Fits → (xs : List A) → AllByRecursion Fits xs → length (flat_map a.text xs) ≤ length xs * a.longest
each_short a Fits one [] fits = omega arith
each_short a Fits one (x ∷ xs) fits =
    let first = one.short x fits.0 in
    let others = each_short a Fits one xs fits.1 in
    let joined = length-append (a.text x) (flat_map a.text xs) in
    rw (flat_map-cons a.text x xs) (omega (arith, first, others, joined))

-- Lists keep the laws, if their limit is below 2^32 and the items keep them.
pub list_lawful : {A : Type 0} {a : Coding A} {Fits : A → Type 0} (most : ℕ) → most < 2 ^ 32 → IsCoding a Fits → IsCoding (list_coding most a) (IsListUpTo most Fits)
unfolding list_text
list_lawful {a = a} {Fits = Fits} most small one =
    as_coding (counted_field of_field most small (as_field one))
    (λ xs fits.
    let each = each_short a Fits one xs (recursion_from_All Fits xs fits.each) in
    let joined = length-append (to_be_bytes w32 (length xs)) (flat_map a.text xs) in
    omega (arith, each, joined, mul-le-mul_right a.longest fits.count))

-- A struct keeps the laws, if its parts do. The parts of the struct that is made of parts must be those parts, and from the parts of a
-- struct the same struct must be made.
pub struct_lawful : {P A : Type 0} {p : Coding P} {FitsParts : P → Type 0} (make : P → A) (parts : A → P)
    → ((x : P) → parts (make x) ≡ x) → ((y : A) → make (parts y) ≡ y) → IsCoding p FitsParts → IsCoding (struct_coding make parts p) (IsStruct parts FitsParts)
struct_lawful {p = p} {FitsParts = FitsParts} make parts there back one =
    as_coding (struct_of (struct_at make p) (λ y. p.text (parts y)) (IsStruct parts FitsParts) make parts there back (λ bytes. refl) (λ y. refl) (λ y fits. fits) (λ y fits. fits) (as_field one))
    (λ y fits. one.short (parts y) fits)
