use Rattle.std.proofs.Common.{◌≡◌, ◌≤◌, length, sym, ap, ◌∙◌, subst, arith}
use Rattle.std.proofs.lemmas.Result.{IfOk-weaker}
use Rattle.sol_base.specs.Accounts.{accounts_of}
use Rattle.data_parts.specs.Parts.{unprepared, Content}
use Rattle.abi_input.specs.Region.{entry_start, lent_in}
use Rattle.abi_input.proofs.Drafts.{laid_out}
use Rattle.abi_input.proofs.Entries.{start_most}
use Rattle.abi_input.proofs.laying.lay_out.Goals as goal

pub finish-requires : goal.finish-requires
finish-requires c =
    let most = start_most (accounts_of c.args.accounts.now) c.args.metas.now c.requires.short c.requires.most in
    omega (arith, most, c.in_ok-draft.ensures.size, c.in_ok-add_instruction.ensures.size)

pub returns-clause-value : goal.returns-clause-value
returns-clause-value c =
    let accounts = accounts_of c.args.accounts.now in
    let all = laid_out c.args.keys.now accounts c.args.metas.now c.args.input.now c.args.program.now _ _ c.in_ok-draft.ensures.bytes c.in_ok-add_instruction.ensures.bytes in
    let lent : c.add_instruction.new.draft.lent ≡ lent_in accounts accounts c.args.metas.now = c.add_instruction.ensures.lent ∙ c.in_ok-draft.ensures.lent in
    IfOk-weaker c.finish.result _ _
    (λ region h. h ∙ ap (λ l. unprepared c.add_instruction.new.draft.bytes l) lent
    ∙ ap (λ l. unprepared l (lent_in accounts accounts c.args.metas.now)) all) c.finish.ensures

pub returns-clause-size : goal.returns-clause-size
returns-clause-size c =
    let enough : entry_start (accounts_of c.args.accounts.now) c.args.metas.now (length c.args.metas.now) ≤
    length c.add_instruction.new.draft.bytes = omega
    (arith, c.in_ok-draft.ensures.size, c.in_ok-add_instruction.ensures.size) in
    IfOk-weaker c.finish.result _ _
    (λ region h. subst (λ (r : Content). entry_start (accounts_of c.args.accounts.now) c.args.metas.now
    (length c.args.metas.now) ≤ length r.bytes) (sym h) enough) c.finish.ensures
