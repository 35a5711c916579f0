use Rattle.std.proofs.Common.{◌≡◌, ◌+◌, length, ap, arith}
use Rattle.abi_input.proofs.Drafts.{instruction_added, length_more}
use Rattle.abi_input.proofs.laying.add_instruction.Goals as goal

pub returns-clause-bytes : goal.returns-clause-bytes
returns-clause-bytes c =
    instruction_added c.args.input.now c.args.program.now _ _ _ _ _ c.to_le_bytes.ensures c.in_ok-append.ensures.bytes c.in_ok-append-2.ensures.bytes c.in_ok-append-3.ensures.bytes

pub returns-clause-size : goal.returns-clause-size
returns-clause-size c =
    let count : length c.to_le_bytes.result ≡ 8 = ap length c.to_le_bytes.ensures in
    let one : length c.append.new.self.bytes
    ≡ length c.args.draft.now.bytes + length c.to_le_bytes.result = length_more c.args.draft.now.bytes
    c.append.new.self.bytes c.to_le_bytes.result c.in_ok-append.ensures.bytes in
    let two : length c.append-2.new.self.bytes
    ≡ length c.append.new.self.bytes + length c.args.input.now = length_more c.append.new.self.bytes
    c.append-2.new.self.bytes c.args.input.now c.in_ok-append-2.ensures.bytes in
    let three : length c.append-3.new.self.bytes
    ≡ length c.append-2.new.self.bytes + length c.args.program.now.0 = length_more c.append-2.new.self.bytes
    c.append-3.new.self.bytes c.args.program.now.0 c.in_ok-append-3.ensures.bytes in
    omega arith
