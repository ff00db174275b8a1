use Rattle.std.proofs.Common.{rules, ◌≡◌, true, Ok, Some, ap, sym, ◌∙◌}
use Rattle.std.specs.Str.{bytes_eq}
use Rattle.sha2.specs.Sha256.{sha256}
use Rattle.authenticators.specs.DirectoryText.{directory_text}
use Rattle.node_journals.specs.Keys.{key_for}
use Rattle.node_journals.proofs.BegunNodes.{is_begun}
use Rattle.node_journals.proofs.rebuilding.begun.Goals as goal

pub returns-in-Ok : goal.returns-in-Ok
returns-in-Ok g c =
    let named : bytes_eq c.args.beginning.now.program c.args.name.now ≡ true = search rules in
    let listed : bytes_eq c.args.beginning.now.directory (sha256 (directory_text c.args.directory)) ≡ true = search rules in
    let b = c.in-Ok.ensures.begun in
    let made : key_for c.args.secrets.now c.args.beginning.now.key ≡ Some c.in-Some.key = search rules in
    is_begun (record { program = g.P.Program.means; name = c.args.name.now; directory = c.args.directory; secrets = c.args.secrets.now }) c.args.beginning.now c.in-Some.key b.0 named listed made b.1
    ∙ ap Ok (sym b.2)
