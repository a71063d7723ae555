use Rattle.std.proofs.Common.{◌≡◌, ℕ, ◌+◌, ◌*◌, ◌≤◌, List, length, take, ap, ◌∙◌, subst, arith, rules}
use Rattle.rules.specs.Module.{Module}
use Rattle.rules.specs.Words.{module_of}
use Rattle.memory.specs.Cells.{replaced}
use Rattle.translation.specs.Code.{build}
use Rattle.translation.specs.Written.{Written}
use Rattle.compiler.specs.Laying.{words}
use Rattle.compiler.specs.Selecting.{code_in}
use Rattle.compiler.proofs.Finishing.{module_is, written, rest_is, blocks_length}
use Rattle.compiler.proofs.write.write_module.Goals as goal

-- what is known of the words once all are written
record Ends (old ws : List ℕ) (n m : ℕ) (M : Module) : Type 0 where
  len : length ws ≡ length old
  count : m ≡ length M.blocks
  reads : module_of (take (2 + 2 * n + 9 * m) ws) ≡ M
  written_as : Written (take (2 + 2 * n + 9 * m) ws) M
  rest : (j : ℕ) → 2 + 2 * n + 9 * m ≤ j → words ws j ≡ words old j

pub returns : goal.returns
returns c =
    let n : ℕ = 2 * c.len.result + 1 in
    let m = c.put_code.new.self.blocks in
    let M = build (code_in c.args.code.now) in
    let old = words c.args.out.now in
    let f = words c.put_code.new.self.out.now in
    let ws = c.put-2.new.self.out.now in
    let S = c.put_code.ensures.stage in
    let e : words ws ≡ replaced (replaced f 0 n) 1 m = c.put-2.ensures.words ∙ ap (λ g. replaced g 1 m) c.put.ensures.words in
    let len : length ws ≡ length c.args.out.now = c.put-2.ensures.len ∙ c.put.ensures.len ∙ c.put_code.ensures.writes.len in
    let E : Ends c.args.out.now ws n m M = record {
      len = len;
      count = blocks_length n m M old f ws S e;
      reads = module_is n m M old f ws S e;
      written_as = written n m M old f ws S e (omega (arith, blocks_length n m M old f ws S e, c.len.ensures, c.args.code.now.few, c.requires.few, c.requires.room));
      rest = rest_is n m M old f ws S e;
    } in
    let F : Ends c.args.out.now _ n m M = subst (λ us. Ends c.args.out.now us n m M) (search rules) E in
    record {
      len = F.len;
      count = ap (λ k. 2 + 2 * n + 9 * k) E.count ∙ ap (λ k. 2 + 2 * (2 * k + 1) + 9 * length M.blocks) c.len.ensures;
      reads = F.reads;
      written = F.written_as;
      rest = F.rest;
    }
