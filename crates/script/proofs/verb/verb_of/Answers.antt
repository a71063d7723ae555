use Rattle.std.proofs.Common.{codes, sym, ap, arith, rules}
use Rattle.std.proofs.lemmas.Slice.Eq.{text_from_reads}
use Rattle.script.specs.Commands.{verb_of}
use Rattle.script.proofs.verb.verb_of.Goals as goal

pub returns-in-window : goal.returns-in-window
returns-in-window c = sym (ap verb_of (text_from_reads c.args.letters.now (codes "window") (omega arith) (search rules)))

pub returns-in-module : goal.returns-in-module
returns-in-module c = sym (ap verb_of (text_from_reads c.args.letters.now (codes "module") (omega arith) (search rules)))

pub returns-in-strike : goal.returns-in-strike
returns-in-strike c = sym (ap verb_of (text_from_reads c.args.letters.now (codes "strike") (omega arith) (search rules)))
