-- The statements that are made of an item's fields and of what was found of it are those that stand in it.
use Rattle.std.proofs.Common.{◌≡◌, ◌≤◌, ◌-◌, ℕ, zero, suc, Bool, true, false, cond, List, [], ◌∷◌, length, get_or, refl, sym, ap, ◌∙◌, arith}
use Rattle.std.specs.Prelude.{Option, Some, None, option_map}
use Rattle.std.specs.List.{cons_option, filter_map}
use Rattle.std.proofs.lemmas.List.{append-nil}
use Rattle.log_chain.specs.declared.entry.Entry.{Entry}
use Rattle.log_chain.specs.Chain.{chain_end, entry_hash, hashes}
use Rattle.authenticators.specs.Directory.{Listing}
use Rattle.replay_verifier.specs.Deviation.{is_genuine_entry, quoted_hash, quoted_hashes}
use Rattle.replay_verifier.specs.Quotes.{Quote, receipt_of, signed_hash}
use Rattle.authenticators.specs.declared.authenticator.Authenticator.{Authenticator}
use Rattle.item_forms.specs.declared.forms.Fields.{Fields}
use Rattle.item_forms.specs.declared.forms.Fields.TheVariants as form
use Rattle.evidence_item.specs.Checking.{findings_of}
use Rattle.evidence_item.specs.Statements.{says}
use Rattle.evidence_set.specs.Held.{authenticators_of, quote_in, statement_quoted_by}
use Rattle.item_forms.specs.Segments.{last_seq}
use Rattle.kept_evidence.specs.Telling.{last_or, quote_with, told_quote, told_quotes, told_statements}

-- ---- the last hash

last_place : (prev : List ℕ) (hs : List (List ℕ)) (n : ℕ) (h : List ℕ) → suc n ≡ length hs → h ≡ get_or hs n h → h ≡ last_or prev hs
last_place prev [] n h long is = absurd (omega (arith, long))
last_place prev (g ∷ []) zero h long is = is
last_place prev (g ∷ []) (suc n) h long is = absurd (omega (arith, long))
last_place prev (g ∷ i ∷ hs) zero h long is = absurd (omega (arith, long))
last_place prev (g ∷ i ∷ hs) (suc n) h long is = last_place prev (i ∷ hs) n h (omega (arith, long)) is

pub last_at : (prev : List ℕ) (hs : List (List ℕ)) (h : List ℕ) → 1 ≤ length hs → h ≡ get_or hs (length hs - 1) h → h ≡ last_or prev hs
last_at prev hs h some is = last_place prev hs (length hs - 1) h (omega (arith, some)) is

last_of_hashes : (start prev : List ℕ) (es : List Entry) → (e : Entry) → last_or start (hashes prev (e ∷ es)) ≡ chain_end prev (e ∷ es)
last_of_hashes start prev [] e = refl
last_of_hashes start prev (f ∷ es) e = last_of_hashes start (entry_hash prev e) es f

last_is_end : (prev : List ℕ) (es : List Entry) → last_or prev (hashes prev es) ≡ chain_end prev es
last_is_end prev [] = refl
last_is_end prev (e ∷ es) = last_of_hashes prev prev es e

-- ---- quotes

module _ (ds : Listing) (me : ℕ) where
  by_receipt : (r : Option Quote) (content : List ℕ) → receipt_of content ≡ r → (e : Entry) → e.content ≡ content → told_quote e (option_map (signed_hash me) r) ≡ quote_in me r
  by_receipt None content is e at = refl
  by_receipt (Some q) content is e at = ap (quote_with (signed_hash me q)) (ap receipt_of at ∙ is)

  one_quote_by : (b : Bool) (e : Entry) → told_quote e (cond b (option_map (signed_hash me) (receipt_of e.content)) None) ≡ cond b (quote_in me (receipt_of e.content)) None
  one_quote_by true e = by_receipt (receipt_of e.content) e.content refl e refl
  one_quote_by false e = refl

  one_quote : (e : Entry) → told_quote e (quoted_hash ds me e) ≡ statement_quoted_by ds me e
  one_quote e = one_quote_by (is_genuine_entry ds me e) e

  all_quotes : (es : List Entry) → told_quotes es (quoted_hashes ds me es) ≡ filter_map (statement_quoted_by ds me) es
  all_quotes [] = refl
  all_quotes (e ∷ es) = ap (λ (o : Option Authenticator). cons_option o (told_quotes es (quoted_hashes ds me es))) (one_quote e) ∙ ap (cons_option (statement_quoted_by ds me e)) (all_quotes es)

-- ---- items

pub told_is : (ds : Listing) (x : Fields) → told_statements x (findings_of ds x) ≡ authenticators_of ds x
told_is ds (form.Auth a) = refl
told_is ds (form.Segment s) =
    ap (λ (h : List ℕ). says s.node (last_seq s.entries) h s.sig ∷ told_quotes s.entries (quoted_hashes ds s.node s.entries)) (last_is_end s.prev s.entries)
    ∙ ap (λ (q : List Authenticator). says s.node (last_seq s.entries) (chain_end s.prev s.entries) s.sig ∷ q) (all_quotes ds s.node s.entries)
told_is ds (form.Audit c) = sym (append-nil _)
told_is ds (form.Send m) = refl
told_is ds (form.Ack a) = refl
