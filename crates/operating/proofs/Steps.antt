-- What the steps of reading files say of the whole.
use Rattle.std.proofs.Common.{◌≡◌, ◌∙◌, ℕ, false, List, Option, Some, None, Result, Ok, Err, inl, inr, refl, sym, ap}
use Rattle.std.specs.Prelude.{◌↔◌, IsSome, is_some}
use Rattle.outcome.specs.Outcome.{told_as, Fails}
use Rattle.authenticators.specs.Directory.{Listing, is_listed, keys_at}
use Rattle.authenticators.specs.declared.fault.DirectoryFault.{DirectoryFault}
use Rattle.authenticators.specs.declared.fault.DirectoryFault.TheVariants as listing
use Rattle.containers.specs.declared.fault.ImportFault.{ImportFault}
use Rattle.containers.specs.Refusals.{Refuses}
use Rattle.evidence.specs.Contents.{Contents}
use Rattle.evidence.specs.declared.fault.AskFault.{AskFault}
use Rattle.evidence.specs.declared.fault.AskFault.TheVariants as asking
use Rattle.evidence.specs.Importing.{import_set}
use Rattle.commands.specs.declared.fault.Fault.{Fault}
use Rattle.commands.specs.declared.fault.Fault.TheVariants as fault
use Rattle.commands.specs.Refusals.{of_cause, of_directory, of_import}
use Rattle.operating.specs.declared.refusal.Refusal.{Refusal}
use Rattle.operating.specs.GatheredFiles.{RefusesText}

-- a text that is refused
pub text_refused : (ds : Listing) (text : List ℕ) (f : ImportFault) (r : Refusal) → r.fault ≡ of_import f → r.item ≡ Some f.item → Refuses f (import_set ds text) → RefusesText ds text r
text_refused ds text f r told item (inl memory) = (f, told, item, inl (told ∙ ap of_cause memory))
text_refused ds text f r told item (inr e) = (f, told, item, inr e)

-- a text that is no directory
pub no_directory : (d : Result Listing DirectoryFault) (e : DirectoryFault) (f : Fault) → f ≡ of_directory e → Fails listing.Memory e d → Fails fault.Memory f (told_as of_directory d)
no_directory d e f told (inl spent) = inl (told ∙ ap of_directory spent)
no_directory d e f told (inr is) = inr (ap (told_as of_directory) is ∙ ap (λ (x : Fault). let r : Result Listing Fault = Err x in r) (sym told))

-- where a question about a node is answered it is listed
something : {K : Type 0} (o : Option K) → (is_some o ≡ false → ⊥) → IsSome o
something None h = absurd (h refl)
something (Some k) h = refl

abbrev answered : {F : Type 0} → F → Result F AskFault
answered x = Ok x

abbrev unknown : {F : Type 0} → Result F AskFault
unknown = Err asking.UnknownNode

pub listed : {F : Type 0} (s : Contents) (node : ℕ) (x : F) → ((answered x ≡ unknown {F = F}) ↔ (is_listed s.directory node ≡ false)) → IsSome (keys_at s.directory node)
listed s node x told = something (keys_at s.directory node) (λ none. absurd (cc (told.1 none)))
