-- The demand for what lies between two statements: its test, and that it fits.
use Rattle.std.proofs.Common.{◌≡◌, ℕ, ◌<◌, Bool, true, false, Option, Some, None, Result, Ok, Err, refl, ap}
use Rattle.std.specs.Prelude.{◌==◌, ◌&&◌, nat_lt, IfSome}
use Rattle.std.proofs.lemmas.Bool.{and_from, and_parts, cond-true, cond-false, eq-eqb, eqb-true, false_from_ne_true, lt-ltb, ltb-true}
use Rattle.authenticators.specs.declared.authenticator.Authenticator.{Authenticator}
use Rattle.messages.specs.declared.message.Message.{Message}
use Rattle.item_forms.specs.declared.forms.Fields.{Fields}
use Rattle.item_forms.specs.declared.forms.Fields.TheVariants as form
use Rattle.item_forms.specs.Spelling.{Fits, FitsAuth, FitsMessage, FitsStatement}
use Rattle.challenges.specs.declared.fault.ChallengeFault.{ChallengeFault}
use Rattle.challenges.specs.declared.fault.ChallengeFault.TheVariants.{TooLong, BadRange}
use Rattle.challenges.specs.Demands.{IsNoDemand, IsRange, IsUnsendable, demand, first_of, statement_of}
use Rattle.byte_calls.specs.declared.refusal.Refusal.{Refusal}
use Rattle.byte_calls.specs.declared.refusal.Refusal.TheVariants as refusal
use Rattle.byte_calls.specs.ItemTexts.{is_range, ranged}

statement_fits : (a : Authenticator) → FitsAuth a → FitsStatement (statement_of a)
statement_fits a f = record { seq = f.seq; hash = f.hash; sig = f.sig }

earlier_fits : (first : Option Authenticator) → IfSome first FitsAuth → IfSome (first_of first) FitsStatement
earlier_fits None f = tt
earlier_fits (Some a) f = statement_fits a f

pub demand_fits : (first : Option Authenticator) (last : Authenticator) → IfSome first FitsAuth → FitsAuth last → Fits (demand first last)
demand_fits first last f l = record { node = l.node; first = earlier_fits first f; last = statement_fits last l }

in_range : (first : Option Authenticator) (last : Authenticator) → IsRange first last → is_range first last ≡ true
in_range None last r = refl
in_range (Some a) last r = and_from _ _ (eq-eqb a.node last.node r.0) (lt-ltb a.seq last.seq r.1)

range_told : (first : Option Authenticator) (last : Authenticator) → is_range first last ≡ true → IsRange first last
range_told None last t = tt
range_told (Some a) last t = let both = and_parts _ _ t in (eqb-true a.node last.node both.0, ltb-true a.seq last.seq both.1)

pub ranged_so : (first : Option Authenticator) (last : Authenticator) → IsRange first last → ranged first last ≡ Ok (demand first last)
ranged_so first last r = cond-true (is_range first last) (Ok (demand first last)) (Err refusal.BadRange) (in_range first last r)

pub not_ranged : (first : Option Authenticator) (last : Authenticator) → (IsRange first last → ⊥) → ranged first last ≡ Err refusal.BadRange
not_ranged first last n = cond-false (is_range first last) (Ok (demand first last)) (Err refusal.BadRange) (false_from_ne_true (is_range first last) (λ t. n (range_told first last t)))

pub never_too_long : (m : Message) (e : ChallengeFault) → FitsMessage m → IsUnsendable m e → ⊥
never_too_long m TooLong fits never = never fits
never_too_long m BadRange fits never = never
