-- What a file says by its texts.
use Rattle.std.proofs.Common.{◌≡◌, ◌∙◌, ℕ, List, Option, Result, Ok, Err, inl, inr, sym, ap}
use Rattle.outcome.specs.Outcome.{◌>>=◌, Fails}
use Rattle.commands.specs.declared.fault.Fault.{Fault}
use Rattle.commands.specs.declared.fault.Fault.TheVariants as fault
use Rattle.operating.specs.FileTexts.{IsUnsaid, IsUnsaidBy, Says, SaysBy, Texts, read_under, said, texts_of}

under : Option (List ℕ) → Result Texts Fault → Result (List ℕ) Fault
under given r = r >>= λ t. read_under given t.above t.text

said_is : (given : Option (List ℕ)) (bytes : List ℕ) (t : Texts) (r : Result (List ℕ) Fault) → texts_of bytes ≡ Ok t → read_under given t.above t.text ≡ r → said given bytes ≡ r
unfolding said under
said_is given bytes t r is told = ap (under given) is ∙ told

pub says : (limit : ℕ) (given file : Option (List ℕ)) (t : Texts) (text : List ℕ) → SaysBy limit texts_of file t → read_under given t.above t.text ≡ Ok text → Says limit given file text
says limit given file t text by told = record { bytes = by.bytes; all = by.all; within = by.within; is = said_is given by.bytes t (Ok text) by.is told }

pub misplaced : (limit : ℕ) (given file : Option (List ℕ)) (t : Texts) (f told : Fault) → told ≡ f → SaysBy limit texts_of file t → read_under given t.above t.text ≡ Err f → IsUnsaid limit given file told
misplaced limit given file t f told same by is = inr (by.bytes, by.all, by.within, inr (said_is given by.bytes t (Err told) by.is (is ∙ ap (λ (x : Fault). let r : Result (List ℕ) Fault = Err x in r) (sym same))))

fails : (given : Option (List ℕ)) (bytes : List ℕ) (f : Fault) → Fails fault.Memory f (texts_of bytes) → Fails fault.Memory f (said given bytes)
unfolding said under
fails given bytes f (inl memory) = inl memory
fails given bytes f (inr is) = inr (ap (under given) is)

pub unsaid : (limit : ℕ) (given file : Option (List ℕ)) (f : Fault) → IsUnsaidBy limit texts_of file f → IsUnsaid limit given file f
unsaid limit given file f (inl read) = inl read
unsaid limit given file f (inr (bytes, all, within, told)) = inr (bytes, all, within, fails given bytes f told)
