-- A statement that stands in an item fits an item of its own.
use Rattle.std.proofs.Common.{◌≡◌, ◌<◌, ◌^◌, ℕ, [], ◌∷◌, Option, Some, None, Result, Ok, Err, sym, ap, subst, inl, inr}
use Rattle.std.specs.Prelude.{IfSome}
use Rattle.std.specs.List.{Contains}
use Rattle.std.specs.Result.{result_ok}
use Rattle.std.proofs.lemmas.List.Elements.{Contains-append_cases, recursion_from_All}
use Rattle.log_chain.specs.declared.entry.Entry.{Entry}
use Rattle.log_chain.specs.declared.fault.FieldFault.{FieldFault}
use Rattle.log_chain.specs.Fields.{IsBytesUpTo}
use Rattle.authenticators.specs.declared.authenticator.Authenticator.{Authenticator}
use Rattle.authenticators.specs.declared.signature.TheConstants.{LONGEST_SIGNATURE_TEXT}
use Rattle.authenticators.specs.Directory.{Listing, keys_at}
use Rattle.authenticators.specs.Statement.{KeysSign}
use Rattle.replay_verifier.specs.Quotes.{Quote, ReceiptsHaveOneText, quote_of}
use Rattle.item_forms.specs.declared.forms.Fields.{Fields}
use Rattle.item_forms.specs.declared.forms.Fields.TheVariants as form
use Rattle.item_forms.specs.declared.forms.Statement.{Statement}
use Rattle.item_forms.specs.Spelling.{Fits, FitsAuth, FitsEntry, FitsStatement}
use Rattle.evidence_item.specs.Statements.{acknowledged, end_of, first_named, named, sent}
use Rattle.evidence_set.specs.Held.{Holds, QuotesOf, quoted_statement}
use Rattle.evidence_set.proofs.Members.{member_cases, nothing, of_member, only_member}
use Rattle.evidence_set.proofs.StatementRanges.{held_in_range}

-- the node's number fits four bytes, and the signature is within its limit
record IsSigner (a : Authenticator) : Type 0 where
  node : a.node < 2 ^ 32
  sig : IsBytesUpTo LONGEST_SIGNATURE_TEXT a.sig

signer : (a b : Authenticator) → a ≡ b → IsSigner a → IsSigner b
signer a b is h = subst IsSigner is h

first_signer : (node : ℕ) (o : Option Statement) (a : Authenticator) → node < 2 ^ 32 → IfSome o FitsStatement → Contains (first_named node o) a → IsSigner a
first_signer node None a below fits c = absurd (nothing a c)
first_signer node (Some s) a below fits c = signer (named node s) a (only_member (named node s) a c) (record { node = below; sig = fits.sig })

read_of : (r : Result Quote FieldFault) (q : Quote) → result_ok r ≡ Some q → r ≡ Ok q
read_of (Ok p) q is = ap Ok (let same : p ≡ q = cc is in same)
read_of (Err e) q is = cc is

module _ (texts : ReceiptsHaveOneText) (keys : KeysSign) (ds : Listing) where
  quote_signer : (me : ℕ) (e : Entry) (a : Authenticator) → FitsEntry e → QuotesOf ds me e a → IsSigner a
  quote_signer me e a fits h =
      let read = texts.found e.content h.quote fits.content.each (read_of (quote_of e.content) h.quote h.reads) in
      signer (quoted_statement me h.quote) a (sym h.is) (record { node = read.0.from; sig = record { each = read.0.sig.each; count = keys.short (keys_at ds h.quote.from) _ _ h.genuine.signed } })

  held_signer : (f : Fields) (a : Authenticator) → Fits f → Holds ds f a → IsSigner a
  held_signer (form.Auth b) a fits h = signer b a (only_member b a h) (record { node = fits.node; sig = fits.sig })
  held_signer (form.Segment s) a fits (inl own) = signer (end_of s) a (only_member (end_of s) a own) (record { node = fits.node; sig = fits.sig })
  held_signer (form.Segment s) a fits (inr (e, e_in, quotes)) =
      let each = recursion_from_All FitsEntry s.entries fits.entries.each in
      quote_signer s.node e a (of_member FitsEntry s.entries e each e_in) quotes
  held_signer (form.Audit c) a fits h = elim (Contains-append_cases (first_named c.node c.first) (named c.node c.last ∷ []) a h) [
    | inl first ↦ first_signer c.node c.first a fits.node fits.first first
    | inr last ↦ signer (named c.node c.last) a (only_member (named c.node c.last) a last) (record { node = fits.node; sig = fits.last.sig })
  ]
  held_signer (form.Send m) a fits h = signer (sent m) a (only_member (sent m) a h) (record { node = fits.from; sig = fits.sig })
  held_signer (form.Ack b) a fits h = elim (member_cases (sent b.message) (acknowledged b ∷ []) a h) [
    | inl first ↦ signer (sent b.message) a first (record { node = fits.message.from; sig = fits.message.sig })
    | inr second ↦ signer (acknowledged b) a (only_member (acknowledged b) a second) (record { node = fits.message.to; sig = fits.sig })
  ]

  pub held_fits : (f : Fields) (a : Authenticator) → Fits f → Holds ds f a → FitsAuth a
  held_fits f a fits h =
      let range = held_in_range ds f a texts fits h in
      let own = held_signer f a fits h in
      record { node = own.node; seq = range.number; hash = range.hash; sig = own.sig }
