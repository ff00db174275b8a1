-- The node of a journal's bytes is the node that went on.
use Rattle.std.proofs.Common.{◌≡◌, ℕ, zero, suc, ◌^◌, ◌<◌, ◌≤◌, List, [], ◌∷◌, ◌++◌, length, Bool, true, false, Option, Some, None, Result, Ok, Err, refl, sym, ap, subst, ◌∙◌}
use Rattle.std.specs.Prelude.{◌==◌, nat_lt, is_some, option_map, if◌then◌else◌}
use Rattle.std.proofs.lemmas.Bool.{eqb-true}
use Rattle.sha2.proofs.Facts256.{length-sha256}
use Rattle.outcome.specs.Bytes.{IsBytes}
use Rattle.outcome.specs.Outcome.{◌>>=◌, told_as}
use Rattle.outcome.proofs.Steps.{Ok-inj, bind_ok, guard_false, guard_true, told_ok}
use Rattle.lms_sign.specs.declared.types.OtsType.{OtsType}
use Rattle.lms_sign.specs.declared.types.LmsType.{LmsType}
use Rattle.lms_sign.specs.KeyText.{IsKey}
use Rattle.lms_sign.specs.Parameters.{height, lms_type_of, ots_type_of}
use Rattle.lms_sign.specs.Signing.{PrivateKey, new_key, node_hash, public_key}
use Rattle.log_chain.specs.Fields.{IsBytesOf}
use Rattle.log_chain.specs.History.{unless}
use Rattle.authenticators.specs.Directory.{Listing, same_key}
use Rattle.authenticators.specs.DirectoryText.{directory_of}
use Rattle.authenticators.specs.Statement.{TestsStatements}
use Rattle.authenticators.proofs.SameKeys.{same_key-refl}
use Rattle.journal.specs.Journal.{can_be_left, recovered}
use Rattle.journal.specs.declared.blocks.TheConstants.{MOST_GROUP}
use Rattle.messages.specs.declared.message.Ack.{Ack}
use Rattle.messages.specs.declared.message.Message.{Message}
use Rattle.item_forms.specs.declared.forms.AckItem.{AckItem}
use Rattle.item_forms.specs.declared.forms.Fields.{Fields}
use Rattle.item_forms.specs.declared.forms.Fields.TheVariants as form
use Rattle.item_forms.specs.Reading.{item_of}
use Rattle.item_forms.specs.Spelling.{FitsAck}
use Rattle.item_forms.specs.SpellingLaws.{ItemsAreReadAsSpelled}
use Rattle.evidence_item.specs.declared.fault.ItemFault.{ItemFault}
use Rattle.evidence_item.specs.Validity.{ValidItemsHaveNoFault, fault_of}
use Rattle.commitment.specs.Calls.{Acknowledge, Checkpoint, Given, Receive, Rekey, Tick, after_call, first_or_old, or_old, some_or_old}
use Rattle.commitment.specs.declared.fault.NodeFault.{NodeFault}
use Rattle.commitment.specs.Nodes.{NodeState, checkpointed, rekeyed, ticked}
use Rattle.node_runs.specs.Answering.{AnswersAreReceipts, after_answer}
use Rattle.node_journals.specs.declared.keys.Secret.{Secret}
use Rattle.node_journals.specs.declared.recorded.Recorded.{Recorded}
use Rattle.node_journals.specs.declared.recorded.Recorded.TheVariants.{Acknowledged, Checkpointed, Received, Rekeyed, Ticked}
use Rattle.node_journals.specs.Giving.{given_of}
use Rattle.node_journals.specs.Keys.{if_is, key_for, made_of, seed_of}
use Rattle.node_journals.specs.Laws.{JournalsRebuild}
use Rattle.node_journals.specs.Rebuilding.{Supplied, rebuilt}
use Rattle.node_journals.specs.Records.{FitsRecord, FitsRecordedAck, recorded_text}
use Rattle.byte_calls.specs.declared.refusal.Refusal.{Refusal}
use Rattle.byte_calls.specs.declared.refusal.Refusal.TheVariants as refusal
use Rattle.byte_calls.specs.JournalLaws.{HasSecret, Host, JournalsFollow, node_of, torn, with_block}
use Rattle.byte_calls.specs.Journals.{acceptance_text, ack_said, acked_in, block_text, challenged_in, checkpoint_text, receipt_text, rekeying_text, restored, secrets_of, texts_in, tick_text}
use Rattle.byte_calls.specs.Nodes.{Replies, accepted, answered_by, evident, evident_ack, evident_in, is_sent, key_of, known, of_length, ticked_by}
use Rattle.byte_calls.specs.Refusals.{of_directory, of_item, of_node, of_reading, of_rebuilding}
use Rattle.byte_calls.specs.Stores.{valid_item_of}
use Rattle.byte_calls.proofs.Accepted.{accepts_sent}
use Rattle.byte_calls.proofs.Fronts.{block_left, block_texts, is_block, torn_left, torn_texts}

-- ---- entropy

pub record Sized (n : ℕ) (entropy bytes : List ℕ) : Type 0 where
  pub same : entropy ≡ bytes
  pub long : length entropy ≡ n

sized : (n : ℕ) (entropy bytes : List ℕ) → of_length n entropy ≡ Ok bytes → Sized n entropy bytes
sized n entropy bytes e =
    let ok = guard_true (length entropy == n) refusal.WrongLength (Ok entropy) bytes e in
    record { same = Ok-inj {E = Refusal} entropy bytes ok.1; long = eqb-true (length entropy) n ok.0 }

bytes_of : (n : ℕ) (entropy bytes : List ℕ) → IsBytes entropy → Sized n entropy bytes → IsBytesOf n bytes
bytes_of n entropy bytes are s = record { each = subst IsBytes s.same are; count = ap length (sym s.same) ∙ s.long }

-- ---- keys

root_length : (ots : OtsType) (id seed : List ℕ) (leaves k r : ℕ) → length (node_hash ots id seed leaves k r) ≡ 32
unfolding node_hash
root_length ots id seed leaves zero r = length-sha256 _
root_length ots id seed leaves (suc k) r = length-sha256 _

pub record MadeKey (id seed : List ℕ) (key : PrivateKey) : Type 0 where
  pub tree : LmsType
  pub leaf : OtsType
  pub is : new_key tree leaf id seed ≡ key
  pub low : nat_lt 10 (height tree) ≡ false
  pub long : length id ≡ 16

some_known : {A : Type 0} (f : Refusal) (o : Option A) (x : A) → known f o ≡ Ok x → o ≡ Some x
some_known f None x e = absurd cc
some_known f (Some y) x e = ap Some (Ok-inj {E = Refusal} y x e)

made : (lms ots : ℕ) (id seed : List ℕ) (key : PrivateKey) → key_of lms ots id seed ≡ Ok key → MadeKey id seed key
unfolding key_of
made lms ots id seed key e =
    let t = bind_ok (known refusal.UnknownLmsType (lms_type_of lms)) _ key e in
    let l = bind_ok (known refusal.UnknownOtsType (ots_type_of ots)) _ key t.2 in
    let n = bind_ok (of_length 16 id) _ key l.2 in
    let s = bind_ok (of_length 32 seed) _ key n.2 in
    let name = sized 16 id n.0 n.1 in
    let secret = sized 32 seed s.0 s.1 in
    let low = guard_false (nat_lt 10 (height t.0)) refusal.HeightTooLarge (Ok (new_key t.0 l.0 n.0 s.0)) key s.2 in
    record {
      tree = t.0;
      leaf = l.0;
      is = ap (λ (i : List ℕ). new_key t.0 l.0 i seed) name.same ∙ ap (λ (i : List ℕ). new_key t.0 l.0 n.0 i) secret.same ∙ Ok-inj {E = Refusal} (new_key t.0 l.0 n.0 s.0) key low.1;
      low = low.0;
      long = name.long;
    }

key_fits : (id seed : List ℕ) (key : PrivateKey) → MadeKey id seed key → IsKey (public_key key)
key_fits id seed key made =
    subst (λ (k : PrivateKey). IsKey (public_key k)) made.is
    (record { id = made.long; root = root_length made.leaf id seed (2 ^ height made.tree) (height made.tree) 1 })

cond_false : {A : Type 0} (b : Bool) (x y : A) → b ≡ false → (if b then x else y) ≡ y
cond_false b x y e = ap (λ (t : Bool). if t then x else y) e

cond_true : {A : Type 0} (b : Bool) (x y : A) → b ≡ true → (if b then x else y) ≡ x
cond_true b x y e = ap (λ (t : Bool). if t then x else y) e

key_again : (keys : List Secret) (id seed : List ℕ) (key : PrivateKey) → seed_of keys id ≡ Some seed → MadeKey id seed key → key_for keys (public_key key) ≡ Some key
key_again keys id seed key has made =
    let k = new_key made.tree made.leaf id seed in
    subst (λ (x : PrivateKey). key_for keys (public_key x) ≡ Some x) made.is
    (ap (made_of (public_key k)) has
    ∙ cond_false (nat_lt 10 (height made.tree)) None (if_is (public_key k) k) made.low
    ∙ cond_true (same_key (public_key k) (public_key k)) (Some k) None (same_key-refl (public_key k)))

-- ---- the node of the bytes

abbrev supplied : {S : Type 0} → Host S → List Secret → Listing → Supplied S
supplied host keys ds = record { program = host.program; name = host.name; directory = ds; secrets = keys }

module _ {S : Type 0} (host : Host S) where
  abbrev rebuilt_of : List Secret → Listing → List (List ℕ) → Result (NodeState S) Refusal
  rebuilt_of keys ds texts = told_as of_rebuilding (rebuilt (supplied host keys ds) texts)

  pub record Restored (file : List ℕ) (n : NodeState S) : Type 0 where
    keys : List Secret
    ds : Listing
    are : secrets_of host.secrets ≡ Ok keys
    listed : told_as of_directory (directory_of host.directory) ≡ Ok ds
    is : rebuilt (supplied host keys ds) (recovered file) ≡ Ok n

  restored_of : (file : List ℕ) (n : NodeState S) → node_of host file ≡ Ok n → Restored file n
  unfolding restored
  restored_of file n e =
      let k = bind_ok (secrets_of host.secrets) (λ keys. told_as of_directory (directory_of host.directory) >>= λ ds. texts_in file >>= rebuilt_of keys ds) n e in
      let d = bind_ok (told_as of_directory (directory_of host.directory)) (λ ds. texts_in file >>= rebuilt_of k.0 ds) n k.2 in
      let t = bind_ok (texts_in file) (rebuilt_of k.0 d.0) n d.2 in
      let left = guard_true (can_be_left file) refusal.Damaged (Ok (recovered file)) t.0 t.1 in
      let same : recovered file ≡ t.0 = Ok-inj {E = Refusal} (recovered file) t.0 left.1 in
      record {
        keys = k.0;
        ds = d.0;
        are = k.1;
        listed = d.1;
        is = told_ok of_rebuilding (rebuilt (supplied host k.0 d.0) (recovered file)) n (ap (rebuilt_of k.0 d.0) same ∙ t.2);
      }

  restored_again : (file other : List ℕ) (n m : NodeState S) (r : Restored file n) → can_be_left other ≡ true → rebuilt (supplied host r.keys r.ds) (recovered other) ≡ Ok m → node_of host other ≡ Ok m
  unfolding restored
  restored_again file other n m r left is =
      ap (λ (x : Result (List Secret) Refusal). x >>= λ keys. told_as of_directory (directory_of host.directory) >>= λ ds. texts_in other >>= rebuilt_of keys ds) r.are
      ∙ ap (λ (x : Result Listing Refusal). x >>= λ ds. texts_in other >>= rebuilt_of r.keys ds) r.listed
      ∙ ap (λ (x : Result (List (List ℕ)) Refusal). x >>= rebuilt_of r.keys r.ds) (cond_true (can_be_left other) (Ok (recovered other)) (Err refusal.Damaged) left)
      ∙ ap (told_as of_rebuilding) is

  before : (file behind : List ℕ) (n : NodeState S) → node_of host file ≡ Ok n → length behind ≤ MOST_GROUP → node_of host (torn file behind) ≡ Ok n
  before file behind n e few =
      let r = restored_of file n e in
      restored_again file (torn file behind) n n r (torn_left file behind few) (ap (rebuilt (supplied host r.keys r.ds)) (torn_texts file behind) ∙ r.is)

  module _ (rebuild : JournalsRebuild S) where
    -- after the record of what gives the node this
    after : (file text block : List ℕ) (n : NodeState S) (r : Restored file n) (record' : Recorded) (x : Given) → text ≡ recorded_text record' → FitsRecord record' → given_of r.keys record' ≡ Some x
        → block_text text ≡ Ok block → node_of host (with_block file block) ≡ Ok (after_call host.program n x)
    after file text block n r record' x is fits gives e =
        let b = is_block text block e in
        let by = supplied host r.keys r.ds in
        restored_again file (with_block file block) n (after_call host.program n x) r (block_left file text block b)
        (ap (rebuilt by) (block_texts file text block b ∙ ap (λ (t : List ℕ). recovered file ++ t ∷ []) is) ∙ rebuild.next by (recovered file) n record' x r.is fits gives)

    -- ---- a tick

    tick_same : (n : NodeState S) (r : Result (NodeState S × List Message) NodeFault) → or_old n (told_as of_node r >>= λ done. Ok done.0) ≡ first_or_old n r
    tick_same n (Ok done) = refl
    tick_same n (Err e) = refl

    ticks : (n : NodeState S) (moment : ℕ) (entropy bytes : List ℕ) → of_length 32 entropy ≡ Ok bytes → first_or_old n (ticked host.program n moment bytes) ≡ or_old n (ticked_by host.program n moment entropy)
    unfolding ticked_by
    ticks n moment entropy bytes e =
        sym (tick_same n (ticked host.program n moment bytes))
        ∙ ap (λ (x : Result (List ℕ) Refusal). or_old n (x >>= λ b. told_as of_node (ticked host.program n moment b) >>= λ done. Ok done.0)) (sym e)

    timer : (file text block : List ℕ) (n : NodeState S) (moment : ℕ) (entropy : List ℕ) → node_of host file ≡ Ok n → moment < 2 ^ 64 → IsBytes entropy
        → tick_text moment entropy ≡ Ok text → block_text text ≡ Ok block → node_of host (with_block file block) ≡ Ok (or_old n (ticked_by host.program n moment entropy))
    unfolding tick_text
    timer file text block n moment entropy e within are told blocked =
        let r = restored_of file n e in
        let b = bind_ok (of_length 32 entropy) (λ bytes. Ok (recorded_text (Ticked moment bytes))) text told in
        let is : text ≡ recorded_text (Ticked moment b.0) = sym (Ok-inj {E = Refusal} (recorded_text (Ticked moment b.0)) text b.2) in
        after file text block n r (Ticked moment b.0) (Tick moment b.0) is (within, bytes_of 32 entropy b.0 are (sized 32 entropy b.0 b.1)) refl blocked
        ∙ ap (λ (m : NodeState S). Ok m) (ticks n moment entropy b.0 b.1)

    -- ---- a checkpoint

    checkpoint : (file block : List ℕ) (n : NodeState S) → node_of host file ≡ Ok n → block_text checkpoint_text ≡ Ok block → node_of host (with_block file block) ≡ Ok (first_or_old n (checkpointed host.program n))
    checkpoint file block n e blocked = after file checkpoint_text block n (restored_of file n e) Checkpointed Checkpoint refl tt refl blocked

    -- ---- a further key

    known_same : (n : NodeState S) (o : Option (NodeState S)) → some_or_old n o ≡ or_old n (known refusal.WrongKey o)
    known_same n None = refl
    known_same n (Some m) = refl

    next_key : (file text block : List ℕ) (n : NodeState S) (lms ots : ℕ) (id seed : List ℕ) (key : PrivateKey) → node_of host file ≡ Ok n → HasSecret host.secrets id seed
        → key_of lms ots id seed ≡ Ok key → rekeying_text lms ots id seed ≡ Ok text → block_text text ≡ Ok block
        → node_of host (with_block file block) ≡ Ok (or_old n (known refusal.WrongKey (rekeyed n key)))
    unfolding rekeying_text
    next_key file text block n lms ots id seed key e has is told blocked =
        let r = restored_of file n e in
        let same : has.0 ≡ r.keys = Ok-inj {E = Refusal} has.0 r.keys (sym has.1 ∙ r.are) in
        let had : seed_of r.keys id ≡ Some seed = subst (λ (keys : List Secret). seed_of keys id ≡ Some seed) same has.2 in
        let m = made lms ots id seed key is in
        let record' = Rekeyed (public_key key) in
        let text_is : text ≡ recorded_text record' =
        sym (Ok-inj {E = Refusal} (recorded_text record') text (sym (ap (λ (x : Result PrivateKey Refusal). x >>= λ k. Ok (recorded_text (Rekeyed (public_key k)))) is) ∙ told)) in
        let gives : given_of r.keys record' ≡ Some (Rekey key) = ap (option_map Rekey) (key_again r.keys id seed key had m) in
        after file text block n r record' (Rekey key) text_is (key_fits id seed key m) gives blocked
        ∙ ap (λ (m' : NodeState S). Ok m') (known_same n (rekeyed n key))

    -- ---- an answer to a message

    module _ (reads : ItemsAreReadAsSpelled) where
      challenged : (x : Fields) (m : Message) → challenged_in x ≡ Ok m → x ≡ form.Send m
      challenged (form.Auth a) m e = absurd cc
      challenged (form.Segment s) m e = absurd cc
      challenged (form.Audit c) m e = absurd cc
      challenged (form.Send k) m e = ap (λ (y : Message). form.Send y) (Ok-inj {E = Refusal} k m e)
      challenged (form.Ack a) m e = absurd cc

      unless_is : (o : Option ItemFault) (x y : Fields) → told_as of_item (unless o x) ≡ Ok y → x ≡ y
      unless_is None x y e = Ok-inj {E = Refusal} x y e
      unless_is (Some f) x y e = absurd cc

      -- what is asked of the node is the item of the text
      asked_is : (ds : Listing) (challenge : List ℕ) (x asked : Fields) → told_as of_reading (item_of challenge) ≡ Ok x → valid_item_of ds challenge ≡ Ok asked → x ≡ asked
      unfolding valid_item_of
      asked_is ds challenge x asked read valid =
          unless_is (fault_of ds x) x asked (sym (ap (λ (r : Result Fields Refusal). r >>= λ y. told_as of_item (unless (fault_of ds y) y)) read) ∙ valid)

      answer : AnswersAreReceipts S → (file text block : List ℕ) (n m : NodeState S) (challenge entropy : List ℕ) (item : Fields) → node_of host file ≡ Ok n → IsBytes challenge → IsBytes entropy
          → receipt_text challenge entropy ≡ Ok text → block_text text ≡ Ok block → Replies host.program challenge entropy item n m → node_of host (with_block file block) ≡ Ok m
      unfolding receipt_text
      answer receipts file text block n m challenge entropy item e are_bytes are told blocked replies =
          let r = restored_of file n e in
          let b = bind_ok (of_length 32 entropy) (λ bytes. told_as of_reading (item_of challenge) >>= λ x. challenged_in x >>= λ k. Ok (recorded_text (Received k bytes))) text told in
          let x = bind_ok (told_as of_reading (item_of challenge)) (λ y. challenged_in y >>= λ k. Ok (recorded_text (Received k b.0))) text b.2 in
          let k = bind_ok (challenged_in x.0) (λ y. Ok (recorded_text (Received y b.0))) text x.2 in
          let is : text ≡ recorded_text (Received k.0 b.0) = sym (Ok-inj {E = Refusal} (recorded_text (Received k.0 b.0)) text k.2) in
          let sends : x.0 ≡ form.Send k.0 = challenged x.0 k.0 k.1 in
          let read : item_of challenge ≡ Ok (form.Send k.0) = told_ok of_reading (item_of challenge) x.0 x.1 ∙ ap (λ (y : Fields). Ok y) sends in
          let fits = (reads.found challenge (form.Send k.0) are_bytes read).0 in
          let asked : form.Send k.0 ≡ replies.asked = sym sends ∙ asked_is n.directory challenge x.0 replies.asked x.1 replies.is_asked in
          let bytes : replies.bytes ≡ b.0 = Ok-inj {E = Refusal} replies.bytes b.0 (sym replies.are_bytes ∙ b.1) in
          let became : m ≡ after_answer host.program n replies.asked replies.bytes = receipts.answered host.program n m replies.asked item replies.bytes replies.sent replies.done in
          let done : m ≡ after_call host.program n (Receive k.0 b.0) =
          became ∙ ap (λ (y : Fields). after_answer host.program n y replies.bytes) (sym asked) ∙ ap (λ (y : List ℕ). after_call host.program n (Receive k.0 y)) bytes in
          after file text block n r (Received k.0 b.0) (Receive k.0 b.0) is (fits, bytes_of 32 entropy b.0 are (sized 32 entropy b.0 b.1)) refl blocked ∙ ap (λ (y : NodeState S). Ok y) (sym done)

      -- ---- an acknowledgement

      pub record IsAck (x : Fields) (said : Ack) : Type 0 where
        pub item : AckItem
        pub is : x ≡ form.Ack item
        pub says : ack_said item ≡ said

      acked : (x : Fields) (a : Ack) → acked_in x ≡ Ok a → IsAck x a
      acked (form.Auth b) a e = absurd cc
      acked (form.Segment s) a e = absurd cc
      acked (form.Audit c) a e = absurd cc
      acked (form.Send k) a e = absurd cc
      acked (form.Ack b) a e = record { item = b; is = refl; says = Ok-inj {E = Refusal} (ack_said b) a e }

      ack_fits : (b : AckItem) → FitsAck b → FitsRecordedAck (ack_said b)
      ack_fits b f = record { from = f.message.to; send_seq = f.message.seq; seq = f.seq; prev = f.prev; sig = f.sig }

      none_of : (o : Option ItemFault) → is_some o ≡ false → o ≡ None
      none_of None e = refl
      none_of (Some f) e = absurd cc

      pub record Accepted (n m : NodeState S) (b : AckItem) : Type 0 where
        pub valid : fault_of n.directory (form.Ack b) ≡ None
        pub sent : is_sent n b.message ≡ true
        pub is : answered_by n b.message.seq ≡ m

      accepted_is : (n m : NodeState S) (text : List ℕ) (b : AckItem) → told_as of_reading (item_of text) ≡ Ok (form.Ack b) → accepted n text ≡ Ok m → Accepted n m b
      unfolding accepted evident_ack evident_in
      accepted_is n m text b read e =
          let a = bind_ok (evident_ack n.directory text) (λ y. if is_sent n y.message then Ok (answered_by n y.message.seq) else Err refusal.BadAck) m e in
          let ev : evident n.directory b ≡ Ok a.0 = sym (ap (λ (r : Result Fields Refusal). r >>= evident_in n.directory) read) ∙ a.1 in
          let ok = guard_false (is_some (fault_of n.directory (form.Ack b))) refusal.BadAck (Ok b) a.0 ev in
          let same : b ≡ a.0 = Ok-inj {E = Refusal} b a.0 ok.1 in
          let sent = guard_true (is_sent n b.message) refusal.BadAck (Ok (answered_by n b.message.seq)) m
          (ap (λ (y : AckItem). if is_sent n y.message then Ok (answered_by n y.message.seq) else Err refusal.BadAck) same ∙ a.2) in
          record { valid = none_of (fault_of n.directory (form.Ack b)) ok.0; sent = sent.0; is = Ok-inj {E = Refusal} (answered_by n b.message.seq) m sent.1 }

      ack : TestsStatements → ValidItemsHaveNoFault → (file text block : List ℕ) (n m : NodeState S) (given : List ℕ) → node_of host file ≡ Ok n → IsBytes given
          → acceptance_text given ≡ Ok text → block_text text ≡ Ok block → accepted n given ≡ Ok m → node_of host (with_block file block) ≡ Ok m
      unfolding acceptance_text
      ack tests valids file text block n m given e are told blocked done =
          let r = restored_of file n e in
          let x = bind_ok (told_as of_reading (item_of given)) (λ y. acked_in y >>= λ a. Ok (recorded_text (Acknowledged a))) text told in
          let a = bind_ok (acked_in x.0) (λ y. Ok (recorded_text (Acknowledged y))) text x.2 in
          let b = acked x.0 a.0 a.1 in
          let said = ack_said b.item in
          let is : text ≡ recorded_text (Acknowledged said) = sym (ap (λ y. recorded_text (Acknowledged y)) b.says ∙ Ok-inj {E = Refusal} (recorded_text (Acknowledged a.0)) text a.2) in
          let read : told_as of_reading (item_of given) ≡ Ok (form.Ack b.item) = x.1 ∙ ap (λ (y : Fields). Ok y) b.is in
          let fits = (reads.found given (form.Ack b.item) are (told_ok of_reading (item_of given) (form.Ack b.item) read)).0 in
          let so = accepted_is n m given b.item read done in
          let took = accepts_sent tests n b.item so.sent ((valids n.directory (form.Ack b.item)).1 so.valid) in
          after file text block n r (Acknowledged said) (Acknowledge said) is (ack_fits b.item fits) refl blocked
          ∙ ap (λ y. Ok (or_old n y)) took ∙ ap (λ (y : NodeState S). Ok y) so.is

pub journals_follow : {S : Type 0} → JournalsRebuild S → ItemsAreReadAsSpelled → AnswersAreReceipts S → TestsStatements → ValidItemsHaveNoFault → JournalsFollow S
journals_follow rebuild reads receipts tests valids = record {
  before = λ host. before host;
  timer = λ host. timer host rebuild;
  checkpoint = λ host. checkpoint host rebuild;
  next_key = λ host. next_key host rebuild;
  answer = λ host. answer host rebuild reads receipts;
  ack = λ host. ack host rebuild reads tests valids;
}
