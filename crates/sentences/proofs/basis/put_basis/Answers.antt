use Rattle.std.proofs.Common.{◌≡◌, ◌∙◌, ◌++◌, List, ℕ, ap, append_assoc, codes, string_bytes}
use Rattle.sentences.specs.Bases.{digest_line, input_name, program_line}
use Rattle.sentences.proofs.basis.put_basis.Goals as goal

-- three texts one behind the other
together : (old one two three p d e : List ℕ) → one ≡ old ++ p → two ≡ one ++ d → three ≡ two ++ e → three ≡ old ++ ((p ++ d) ++ e)
together old one two three p d e first second third =
    third ∙ ap (λ (t : List ℕ). t ++ e) (second ∙ ap (λ (t : List ℕ). t ++ d) first ∙ append_assoc old p d) ∙ append_assoc old (p ++ d) e

pub returns : goal.returns
returns c =
    let basis = c.args.basis.now in
    let program = c.in_ok-put_program.ensures ∙ ap (λ (name : List ℕ). c.args.text.now.items ++ program_line name) c.as_str.ensures.value in
    let judged = c.in_ok-put_digest-2.ensures ∙ ap (λ (name : List ℕ). c.put_digest.new.text.items ++ digest_line name basis.evidence) c.name.ensures in
    together c.args.text.now.items c.put_program.new.text.items c.put_digest.new.text.items c.put_digest-2.new.text.items (program_line (string_bytes basis.program)) (digest_line (codes "directory") basis.directory)
    (digest_line (input_name basis.input) basis.evidence) program c.in_ok-put_digest.ensures judged
