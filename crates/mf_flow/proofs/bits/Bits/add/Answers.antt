use Rattle.std.proofs.Common.{arith}
use Rattle.mf_flow.proofs.NumberBits.{bit_added}
use Rattle.mf_flow.proofs.bits.Bits.add.Goals as goal

pub returns-clause-ok : goal.returns-clause-ok
returns-clause-ok c =
    bit_added c.args.self.now c.make_room.new.self c.put.new.self c.args.number c.word-word.result c.in_ok-make_room.ensures.same (omega (arith, c.in_ok-make_room.ensures.room)) c.word-word.ensures
    c.put.ensures
