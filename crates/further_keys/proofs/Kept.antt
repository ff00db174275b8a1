-- The laws on verdicts and on proofs.
use Rattle.std.proofs.Common.{ℕ, List, refl}
use Rattle.std.specs.List.{All, Contains}
use Rattle.std.proofs.lemmas.List.Elements.{All-contains}
use Rattle.authenticators.specs.Directory.{Listing}
use Rattle.replay_verifier.specs.Conforming.{PrefixesConform, setting_of}
use Rattle.replay_verifier.specs.Meaning.{Meaning}
use Rattle.replay_verifier.specs.Quotes.{TestsQuotes}
use Rattle.replay_verifier.specs.ReplayLaws.{ConformingListsAreProper, ConformingListsBegin, ConformingListsRise, DeviatingListsDoNotConform}
use Rattle.item_forms.specs.declared.forms.Fields.TheVariants as form
use Rattle.proofs.specs.declared.proof.Parts.{Parts}
use Rattle.proofs.specs.declared.proof.Parts.TheVariants as parts
use Rattle.proofs.specs.Convicting.{Convicts}
use Rattle.further_keys.specs.FurtherKeys.{HasFurtherKeys}
use Rattle.further_keys.specs.Keeping.{FurtherKeysKeepProofs, FurtherKeysKeepVerdicts, QuotesNothingNew, ShowsNothingNew}
use Rattle.further_keys.proofs.Items.{valid}
use Rattle.further_keys.proofs.Reasons.{stays}
use Rattle.further_keys.proofs.Verdicts.{conforms_new, conforms_old, deviates_new}

each_of : {X : Type 0} (P : X → Type 0) (xs : List X) → All P xs → (x : X) → Contains xs x → P x
each_of P xs all x c = All-contains P xs x all c

pub further_keys_keep_verdicts : {S : Type 0} → TestsQuotes → ConformingListsRise S → ConformingListsBegin S → ConformingListsAreProper S → PrefixesConform S → FurtherKeysKeepVerdicts S
further_keys_keep_verdicts tests rise begin proper prefixes = record {
  conforms = λ old new h me program prev log c. conforms_new old new h me program prev log c;
  conformed = λ old new h me program prev log q c. conforms_old old new h me program prev log (each_of (QuotesNothingNew old new me) log q) c;
  deviates = λ old new h me program prev log at why d q. deviates_new old new h me program tests proper prefixes prev log at why d q;
  stays = λ old new h me program prev log at why other d. stays old new h me program tests rise begin proper prefixes prev log at why other d;
}

module _ {S : Type 0} (tests : TestsQuotes) (rise : ConformingListsRise S) (begin : ConformingListsBegin S) (proper : ConformingListsAreProper S) (prefixes : PrefixesConform S) (not_both : DeviatingListsDoNotConform S) where
  convicts : (old new : Listing) → HasFurtherKeys old new → (program : Meaning S) (node : ℕ) (x : Parts) → ShowsNothingNew old new x → Convicts old program node x → Convicts new program node x
  convicts old new h program node (parts.TwoAuths a b) q c = (valid old new h (form.Auth a) c.0, valid old new h (form.Auth b) c.1, c.2, c.3)
  convicts old new h program node (parts.AuthSegment a s) q c = (valid old new h (form.Auth a) c.0, valid old new h (form.Segment s) c.1, c.2, c.3, c.4)
  convicts old new h program node (parts.Nonconforming s) q c =
      (valid old new h (form.Segment s) c.0, c.1, λ conforms. c.2 (conforms_old old new h s.node program s.prev s.entries (each_of (QuotesNothingNew old new s.node) s.entries q) conforms))

  pub further_keys_keep_proofs : FurtherKeysKeepProofs S
  further_keys_keep_proofs = record {
    convicts = convicts;
    deviating = λ old new h program s at why v d q.
        (valid old new h (form.Segment s) v, refl, λ c. not_both (setting_of new s.node program) s.prev s.entries at why (deviates_new old new h s.node program tests proper prefixes s.prev s.entries at why d q) c);
    stays = λ old new h program s at why v other d.
        (valid old new h (form.Segment s) v, refl, λ c. not_both (setting_of new s.node program) s.prev s.entries at why (stays old new h s.node program tests rise begin proper prefixes s.prev s.entries at why other d) c);
  }
