-- The texts of records and of beginnings: what is read is spelled so, and what is spelled so is read.
use Rattle.std.proofs.Common.{◌≡◌, ℕ, ◌<◌, ◌^◌, eqb, List, [], ◌∷◌, ◌++◌, length, Some, Ok, refl, sym, ap, subst, ◌∙◌, append_assoc, lit<, arith}
use Rattle.std.specs.Int.{w8, w32, w64, to_be_bytes}
use Rattle.std.proofs.lemmas.Bool.{eqb-true}
use Rattle.std.proofs.lemmas.List.{drop_at as drop_front, length-append}
use Rattle.lms_sign.specs.declared.key.PublicKey.{PublicKey}
use Rattle.lms_sign.specs.KeyText.{IsKey, KeysHaveOneText, key_of, key_text}
use Rattle.authenticators.specs.declared.signature.TheConstants.{LONGEST_SIGNATURE_TEXT}
use Rattle.outcome.specs.Bytes.{IsBytes}
use Rattle.outcome.specs.Outcome.{◌>>=◌, told_as}
use Rattle.outcome.proofs.ByteLists.{IsBytes-drop}
use Rattle.outcome.proofs.Steps.{bind_ok, told_ok, Ok-inj}
use Rattle.log_chain.specs.Fields.{Read, IsBytesOf, IsBytesUpTo, bytes_at, bytes_text, number_at, take_at}
use Rattle.log_chain.proofs.Codec.{IsField, Takes, both, bind_assoc, chosen_by, both_at, made_at, said, then_at, told, turned}
use Rattle.log_chain.proofs.FieldKinds.{block_field, bytes_field, front_again, u32_field, u64_field, u8_field}
use Rattle.log_chain.proofs.Tagged.{IsTaken, either_taken, form_taken, none_taken}
use Rattle.log_chain.proofs.WholeTexts.{IsWhole, to_the_end}
use Rattle.messages.specs.declared.message.Message.{Message}
use Rattle.item_forms.specs.declared.forms.Fields.{Fields}
use Rattle.item_forms.specs.declared.forms.Fields.TheVariants as form
use Rattle.item_forms.specs.FramedItems.{FramedItemsReadBack, HasTag, framed, framed_at}
use Rattle.item_forms.specs.Spelling.{Fits, FitsMessage}
use Rattle.node_journals.specs.declared.fault.RecordFault.{RecordFault}
use Rattle.node_journals.specs.declared.fault.RecordFault.TheVariants.{BadTag, Trailing}
use Rattle.node_journals.specs.declared.recorded.Recorded.{Recorded}
use Rattle.node_journals.specs.declared.recorded.Recorded.TheVariants.{Acknowledged, Checkpointed, Received, Rekeyed, Ticked}
use Rattle.node_journals.specs.Records.{FitsRecord, RecordsReadBack, ack_at, ack_text, ended, key_at, kind_at, message_in, received_at, recorded_of, recorded_text, ticked_at, to_end}
use Rattle.node_journals.specs.Refusals.{of_field, of_item, of_key}

-- ---- kinds of field, with the faults of records

byte : IsField (λ bytes. told_as of_field (number_at w8 bytes)) (λ n. n ∷ []) (λ n. n < 256)
byte = told of_field u8_field

pub node : IsField (λ bytes. told_as of_field (number_at w32 bytes)) (to_be_bytes w32) (λ n. n < 2 ^ 32)
node = told of_field u32_field

pub number : IsField (λ bytes. told_as of_field (number_at w64 bytes)) (to_be_bytes w64) (λ n. n < 2 ^ 64)
number = told of_field u64_field

pub hash : IsField (λ bytes. told_as of_field (take_at 32 bytes)) (λ text. text) (IsBytesOf 32)
hash = told of_field (block_field 32)

signature : IsField (λ bytes. told_as of_field (bytes_at LONGEST_SIGNATURE_TEXT bytes)) bytes_text (IsBytesUpTo LONGEST_SIGNATURE_TEXT)
signature = told of_field (bytes_field LONGEST_SIGNATURE_TEXT (lit< tt))

five : (a b c d e : List ℕ) → a ++ (b ++ (c ++ (d ++ e))) ≡ a ++ b ++ c ++ d ++ e
five a b c d e = simp append_assoc

-- ---- a key

key_long : (key : PublicKey) → IsKey key → length (key_text key) ≡ 56
key_long key h = omega (arith, length-append key.id key.root, h.id, h.root)

module _ (keys : KeysHaveOneText) where
  pub key_field : IsField key_at key_text IsKey
  unfolding key_at
  key_field = record {
    takes = λ bytes key rest fits e.
        let a = bind_ok (told_as of_field (take_at 56 bytes)) (λ text. told_as of_key (key_of text.0) >>= λ key. Ok (key, text.1)) (key, rest) e in
        let b = bind_ok (told_as of_key (key_of a.0.0)) (λ key. Ok (key, a.0.1)) (key, rest) a.2 in
        let t = (told of_field (block_field 56)).takes bytes a.0.0 a.0.1 fits a.1 in
        let k = keys.found a.0.0 b.0 t.1.each (told_ok of_key (key_of a.0.0) b.0 b.1) in
        subst (λ (y : PublicKey × List ℕ). Takes bytes (key_text y.0) y.1 × IsKey y.0) (Ok-inj {E = RecordFault} (b.0, a.0.1) (key, rest) b.2)
        (subst (λ (text : List ℕ). Takes bytes text a.0.1) k.1 t.0, k.0);
    again = λ key rest h.
        ap (λ r. told_as of_field r >>= λ text. told_as of_key (key_of text.0) >>= λ key. Ok (key, text.1)) (front_again 56 (key_text key) rest (key_long key h))
        ∙ ap (λ r. told_as of_key r >>= λ key. Ok (key, rest)) (keys.only key h);
  }

  module _ (items : FramedItemsReadBack) where
    -- ---- a message, as the send challenge of it

    behind : (text rest : List ℕ) → IsBytes (text ++ rest) → IsBytes rest
    behind text rest fits = subst IsBytes (drop_front text rest (length text) refl) (IsBytes-drop (length text) (text ++ rest) fits)

    abbrev FitsSend : Fields → Type 0
    FitsSend x = HasTag (Some 4) x × Fits x

    send_field : IsField (framed_at (Some 4)) framed FitsSend
    send_field = record {
      takes = λ bytes x rest fits e.
          let f = items.found (Some 4) bytes x rest fits e in
          (record { parts = f.0; rest_fits = behind (framed x) rest (subst IsBytes f.0 fits) }, (f.1, f.2));
      again = λ x rest fits. items.only (Some 4) x rest fits.0 fits.1;
    }

    sent : (x : Fields) (m : Message) → FitsSend x → message_in x ≡ Ok m → (form.Send m ≡ x) × FitsMessage m
    sent (form.Auth a) m fits e = absurd cc
    sent (form.Segment s) m fits e = absurd cc
    sent (form.Audit c) m fits e = absurd cc
    sent (form.Send n) m fits e =
        let same : n ≡ m = Ok-inj {E = RecordFault} n m e in
        (ap (λ (x : Message). form.Send x) (sym same), subst FitsMessage same fits.1)
    sent (form.Ack a) m fits e = absurd cc

    message_field : IsField (λ bytes. told_as of_item (framed_at (Some 4) bytes) >>= λ r. message_in r.0 >>= λ m. Ok (m, r.1)) (λ m. framed (form.Send m)) FitsMessage
    message_field = turned message_in (λ m. form.Send m) FitsMessage (λ x m. sent x m) (λ m fits. ((refl, fits), refl)) (told of_item send_field)

    -- ---- what a record has behind its kind

    abbrev number_of_kind : Recorded → ℕ
    number_of_kind (Received m entropy) = 1
    number_of_kind (Ticked moment entropy) = 2
    number_of_kind Checkpointed = 3
    number_of_kind (Acknowledged a) = 4
    number_of_kind (Rekeyed key) = 5

    abbrev behind_kind : Recorded → List ℕ
    behind_kind (Received m entropy) = entropy ++ framed (form.Send m)
    behind_kind (Ticked moment entropy) = entropy ++ to_be_bytes w64 moment
    behind_kind Checkpointed = []
    behind_kind (Acknowledged a) = ack_text a
    behind_kind (Rekeyed key) = key_text key

    abbrev FitsKind : ℕ → Recorded → Type 0
    FitsKind kind r = (number_of_kind r ≡ kind) × FitsRecord r

    abbrev entropy_at : List ℕ → Read (List ℕ) RecordFault
    entropy_at bytes = told_as of_field (take_at 32 bytes)

    abbrev sent_at : List ℕ → Read Message RecordFault
    sent_at bytes = told_as of_item (framed_at (Some 4) bytes) >>= λ r. message_in r.0 >>= λ m. Ok (m, r.1)

    abbrev moment_at : List ℕ → Read ℕ RecordFault
    moment_at bytes = told_as of_field (number_at w64 bytes)

    abbrev Receipt : Type 0
    Receipt = List ℕ × Message

    receipt : IsField (both_at entropy_at sent_at) (λ (p : Receipt). p.0 ++ framed (form.Send p.1)) (λ p. IsBytesOf 32 p.0 × FitsMessage p.1)
    receipt = both hash message_field

    abbrev received : Receipt → Recorded
    received p = Received p.1 p.0

    received_reads : (bytes : List ℕ) → received_at bytes ≡ made_at received (both_at entropy_at sent_at) bytes
    unfolding received_at
    received_reads bytes = simp bind_assoc

    abbrev Moment : Type 0
    Moment = List ℕ × ℕ

    moment : IsField (both_at entropy_at moment_at) (λ (p : Moment). p.0 ++ to_be_bytes w64 p.1) (λ p. IsBytesOf 32 p.0 × (p.1 < 2 ^ 64))
    moment = both hash number

    abbrev ticked : Moment → Recorded
    ticked p = Ticked p.1 p.0

    ticked_reads : (bytes : List ℕ) → ticked_at bytes ≡ made_at ticked (both_at entropy_at moment_at) bytes
    unfolding ticked_at
    ticked_reads bytes = simp bind_assoc

    -- node, number, number, hash, signature
    abbrev AckParts : Type 0
    AckParts = ℕ × (ℕ × (ℕ × (List ℕ × List ℕ)))

    abbrev ack_made : AckParts → Recorded
    ack_made p = Acknowledged (record { from = p.0; send_seq = p.1.0; seq = p.1.1.0; prev = p.1.1.1.0; sig = p.1.1.1.1 })

    abbrev node_at : List ℕ → Read ℕ RecordFault
    node_at bytes = told_as of_field (number_at w32 bytes)

    abbrev signature_at : List ℕ → Read (List ℕ) RecordFault
    signature_at bytes = told_as of_field (bytes_at LONGEST_SIGNATURE_TEXT bytes)

    abbrev ack_parts_at : List ℕ → Read AckParts RecordFault
    ack_parts_at = both_at node_at (both_at moment_at (both_at moment_at (both_at entropy_at signature_at)))

    ack_parts : IsField ack_parts_at (λ (p : AckParts). to_be_bytes w32 p.0 ++ (to_be_bytes w64 p.1.0 ++ (to_be_bytes w64 p.1.1.0 ++ (p.1.1.1.0 ++ bytes_text p.1.1.1.1))))
        (λ p. (p.0 < 2 ^ 32) × ((p.1.0 < 2 ^ 64) × ((p.1.1.0 < 2 ^ 64) × (IsBytesOf 32 p.1.1.1.0 × IsBytesUpTo LONGEST_SIGNATURE_TEXT p.1.1.1.1))))
    ack_parts = both node (both number (both number (both hash signature)))

    ack_reads : (bytes : List ℕ) → ack_at bytes ≡ made_at ack_made ack_parts_at bytes
    unfolding ack_at
    ack_reads bytes = simp bind_assoc

    nothing : IsField (λ bytes. let read : Read (Unit {0}) RecordFault = Ok (tt, bytes) in read) (λ x. []) (λ x. Unit {0})
    nothing = record { takes = λ bytes x rest fits e. nothing_taken bytes x rest fits e; again = λ x rest fits. refl }
      where
        nothing_taken : (bytes : List ℕ) (x : Unit {0}) (rest : List ℕ) → IsBytes bytes → ◌≡◌ {A = Read (Unit {0}) RecordFault} (Ok (tt, bytes)) (Ok (x, rest)) → Takes bytes [] rest × Unit {0}
        nothing_taken bytes x rest fits e =
            let same : bytes ≡ rest = ap (λ (p : Unit {0} × List ℕ). p.1) (Ok-inj {E = RecordFault} (tt, bytes) (x, rest) e) in
            (record { parts = same; rest_fits = subst IsBytes same fits }, tt)

    -- ---- records

    kind_again : (r : Recorded) (rest : List ℕ) → FitsRecord r → kind_at (number_of_kind r) (behind_kind r ++ rest) ≡ Ok (r, rest)
    unfolding kind_at
    kind_again (Received m entropy) rest fits = received_reads _ ∙ ap (λ (p : Read Receipt RecordFault). p >>= λ x. Ok (received x.0, x.1)) (receipt.again (entropy, m) rest (fits.1, fits.0))
    kind_again (Ticked at entropy) rest fits = ticked_reads _ ∙ ap (λ (p : Read Moment RecordFault). p >>= λ x. Ok (ticked x.0, x.1)) (moment.again (entropy, at) rest (fits.1, fits.0))
    kind_again Checkpointed rest fits = refl
    kind_again (Acknowledged a) rest fits =
        ap (λ (text : List ℕ). ack_at (text ++ rest)) (sym (five (to_be_bytes w32 a.from) (to_be_bytes w64 a.send_seq) (to_be_bytes w64 a.seq) a.prev (bytes_text a.sig)))
        ∙ ack_reads _
        ∙ ap (λ (p : Read AckParts RecordFault). p >>= λ x. Ok (ack_made x.0, x.1))
        (ack_parts.again (a.from, (a.send_seq, (a.seq, (a.prev, a.sig)))) rest (fits.from, (fits.send_seq, (fits.seq, (fits.prev, fits.sig)))))
    kind_again (Rekeyed key) rest fits = ap (λ (p : Read PublicKey RecordFault). p >>= λ x. Ok (Rekeyed x.0, x.1)) (key_field.again key rest fits)

    made_taken : {X : Type 0} {at_x : List ℕ → Read X RecordFault} {text_x : X → List ℕ} {FitsX : X → Type 0} (kind : ℕ) (make : X → Recorded) (at : List ℕ → Read Recorded RecordFault)
        → ((bytes : List ℕ) → at bytes ≡ made_at make at_x bytes) → ((x : X) → text_x x ≡ behind_kind (make x)) → ((x : X) → FitsX x → FitsKind kind (make x))
        → IsField at_x text_x FitsX → IsTaken at behind_kind (FitsKind kind)
    made_taken kind make at reads spells to field bytes y rest fits e = form_taken make behind_kind (FitsKind kind) spells to field bytes y rest fits (sym (reads bytes) ∙ e)

    kind_field : (kind : ℕ) → IsField (kind_at kind) behind_kind (FitsKind kind)
    unfolding kind_at
    kind_field kind = record {
      takes = either_taken _ _ behind_kind (FitsKind kind) (eqb kind 1) (λ is. made_taken kind received received_at received_reads (λ p. refl) (λ p f. (sym (eqb-true _ _ is), (f.1, f.0))) receipt)
          (λ not_1. either_taken _ _ behind_kind (FitsKind kind) (eqb kind 2) (λ is. made_taken kind ticked ticked_at ticked_reads (λ p. refl) (λ p f. (sym (eqb-true _ _ is), (f.1, f.0))) moment)
          (λ not_2. either_taken _ _ behind_kind (FitsKind kind) (eqb kind 3) (λ is. form_taken (λ x. Checkpointed) behind_kind (FitsKind kind) (λ x. refl) (λ x f. (sym (eqb-true _ _ is), tt)) nothing)
          (λ not_3. either_taken _ _ behind_kind (FitsKind kind) (eqb kind 4) (λ is. made_taken kind ack_made ack_at ack_reads
          (λ p. five (to_be_bytes w32 p.0) (to_be_bytes w64 p.1.0) (to_be_bytes w64 p.1.1.0) p.1.1.1.0 (bytes_text p.1.1.1.1))
          (λ p f. (sym (eqb-true _ _ is), record { from = f.0; send_seq = f.1.0; seq = f.1.1.0; prev = f.1.1.1.0; sig = f.1.1.1.1 })) ack_parts)
          (λ not_4. either_taken _ _ behind_kind (FitsKind kind) (eqb kind 5) (λ is. form_taken Rekeyed behind_kind (FitsKind kind) (λ k. refl) (λ k f. (sym (eqb-true _ _ is), f)) key_field)
          (λ not_5. none_taken BadTag behind_kind (FitsKind kind))))));
      again = λ r rest fits. ap (λ (n : ℕ). kind_at n (behind_kind r ++ rest)) (sym fits.0) ∙ kind_again r rest fits.1;
    }

    abbrev kind_byte_at : List ℕ → Read ℕ RecordFault
    kind_byte_at bytes = told_as of_field (number_at w8 bytes)

    record_field : IsField (then_at kind_byte_at kind_at) recorded_text FitsRecord
    record_field =
        said recorded_text FitsRecord spelled (λ r f. f.1) (λ r f. (small r, f))
        (chosen_by number_of_kind kind_at behind_kind FitsRecord byte (λ kind fits. kind_field kind))
      where
        spelled : (r : Recorded) → number_of_kind r ∷ [] ++ behind_kind r ≡ recorded_text r
        spelled (Received m entropy) = refl
        spelled (Ticked at entropy) = refl
        spelled Checkpointed = refl
        spelled (Acknowledged a) = refl
        spelled (Rekeyed key) = refl

        small : (r : Recorded) → number_of_kind r < 256
        small (Received m entropy) = lit< tt
        small (Ticked at entropy) = lit< tt
        small Checkpointed = lit< tt
        small (Acknowledged a) = lit< tt
        small (Rekeyed key) = lit< tt

    record_texts : IsWhole (λ bytes. ended (then_at kind_byte_at kind_at bytes)) recorded_text FitsRecord
    record_texts = to_the_end Trailing record_field

    as_read : (bytes : List ℕ) → recorded_of bytes ≡ ended (then_at kind_byte_at kind_at bytes)
    unfolding recorded_of
    as_read bytes = sym (bind_assoc (kind_byte_at bytes) (λ kind. kind_at kind.0 kind.1) to_end)

    pub records_back : RecordsReadBack
    records_back = record {
      found = λ bytes r fits e. let t = record_texts.takes bytes r fits (sym (as_read bytes) ∙ e) in (t.1, t.0);
      only = λ r fits. as_read (recorded_text r) ∙ record_texts.again r fits;
    }
