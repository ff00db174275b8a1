-- The texts of beginnings: what is read is spelled so, and what is spelled so is read.
use Rattle.std.proofs.Common.{◌≡◌, ℕ, List, [], ◌∷◌, ◌++◌, Ok, refl, sym, append_assoc, lit<}
use Rattle.std.specs.Int.{w32, w64, to_be_bytes}
use Rattle.std.specs.Str.{bytes_eq}
use Rattle.std.proofs.lemmas.Slice.Eq.{bytes_eq-Decides}
use Rattle.lms_sign.specs.KeyText.{KeysHaveOneText, key_text}
use Rattle.outcome.specs.Bytes.{IsBytes}
use Rattle.outcome.specs.Outcome.{told_as}
use Rattle.outcome.proofs.ByteLists.{IsBytes-cons, IsBytes-none}
use Rattle.outcome.proofs.Steps.{guard_true}
use Rattle.log_chain.specs.Fields.{IsBytesUpTo, bytes_at, bytes_text}
use Rattle.log_chain.proofs.Codec.{IsField, both, bind_assoc, struct_of, told, turned}
use Rattle.log_chain.proofs.FieldKinds.{block_field, bytes_field}
use Rattle.log_chain.proofs.WholeTexts.{IsWhole, to_the_end}
use Rattle.node_journals.specs.declared.beginning.TheConstants.{LONGEST_NAME}
use Rattle.node_journals.specs.declared.fault.RecordFault.TheVariants.{BadMagic, Trailing}
use Rattle.node_journals.specs.Beginnings.{BeginningsReadBack, FitsBeginning, beginning_at, beginning_of, beginning_text, known, magic, magic_at}
use Rattle.node_journals.specs.Refusals.{of_field}
use Rattle.node_journals.proofs.RecordTexts.{hash, key_field, node, number}

magic_bytes : IsBytes magic
magic_bytes = IsBytes-cons 80 (82 ∷ 78 ∷ 79 ∷ 68 ∷ 69 ∷ 74 ∷ 49 ∷ []) (lit< tt) (IsBytes-cons 82 (78 ∷ 79 ∷ 68 ∷ 69 ∷ 74 ∷ 49 ∷ []) (lit< tt) (IsBytes-cons 78 (79 ∷ 68 ∷ 69 ∷ 74 ∷ 49 ∷ []) (lit< tt) (IsBytes-cons 79 (68 ∷ 69 ∷ 74 ∷ 49 ∷ []) (lit< tt) (IsBytes-cons 68 (69 ∷ 74 ∷ 49 ∷ []) (lit< tt) (IsBytes-cons 69 (74 ∷ 49 ∷ []) (lit< tt) (IsBytes-cons 74 (49 ∷ []) (lit< tt) (IsBytes-cons 49 [] (lit< tt) IsBytes-none)))))))

is_magic : (front : List ℕ) (u : Unit {0}) → known front ≡ Ok u → magic ≡ front
is_magic front u e = sym ((bytes_eq-Decides front magic).0 (guard_true (bytes_eq front magic) BadMagic (Ok tt) u e).0)

magic_field : IsField magic_at (λ u. magic) (λ u. Unit {0})
unfolding magic_at
magic_field = turned known (λ u. magic) (λ u. Unit {0}) (λ front u fits e. (is_magic front u e, tt)) (λ u fits. (record { each = magic_bytes; count = refl }, refl)) (told of_field (block_field 8))

name : IsField (λ bytes. told_as of_field (bytes_at LONGEST_NAME bytes)) bytes_text (IsBytesUpTo LONGEST_NAME)
name = told of_field (bytes_field LONGEST_NAME (lit< tt))

six : (a b c d e f : List ℕ) → a ++ (b ++ (c ++ (d ++ (e ++ f)))) ≡ a ++ b ++ c ++ d ++ e ++ f
six a b c d e f = simp append_assoc

module _ (keys : KeysHaveOneText) where
  beginning_field : IsField beginning_at beginning_text FitsBeginning
  unfolding beginning_at
  beginning_field =
      struct_of beginning_at beginning_text FitsBeginning (λ p. record { me = p.1.0; first_seq = p.1.1.0; directory = p.1.1.1.0; key = p.1.1.1.1.0; program = p.1.1.1.1.1 })
      (λ b. (tt, (b.me, (b.first_seq, (b.directory, (b.key, b.program)))))) (λ p. refl) (λ b. refl)
      (λ bytes. simp bind_assoc) (λ b. six magic (to_be_bytes w32 b.me) (to_be_bytes w64 b.first_seq) b.directory (key_text b.key) (bytes_text b.program))
      (λ b f. record { me = f.1.0; first_seq = f.1.1.0; directory = f.1.1.1.0; key = f.1.1.1.1.0; program = f.1.1.1.1.1 })
      (λ b f. (tt, (f.me, (f.first_seq, (f.directory, (f.key, f.program))))))
      (both magic_field (both node (both number (both hash (both (key_field keys) name)))))

  beginning_texts : IsWhole beginning_of beginning_text FitsBeginning
  unfolding beginning_of
  beginning_texts = to_the_end Trailing beginning_field

  pub beginnings_back : BeginningsReadBack
  beginnings_back = record { found = λ bytes b fits e. let t = beginning_texts.takes bytes b fits e in (t.1, t.0); only = λ b fits. beginning_texts.again b fits }
