-- `play::Bench::send` meets its contract.
use Rattle.std.proofs.Common.{ℕ, List, refl, ap, subst}
use Rattle.effects.specs.declared.Reply.{Reply}
use Rattle.effects.specs.ContractForms.{Gives}
use Rattle.chip.specs.Frames.{sent_of, frame_of}
use Rattle.play.specs.Play.{chip_on, frame_turn}
use Rattle.play.proofs.Laws.{unhexed_front}
use Rattle.play.proofs.Bench.send.Goals as goal

pub returns-clause-played : goal.returns-clause-played
unfolding frame_turn
returns-clause-played c =
    let a = c.args in
    let b = a.self.now in
    let r = c.frame-r in
    let g = subst (λ (z : List ℕ). Gives (frame_of b.rec (chip_on b) (sent_of z a.tail a.wp b.strict b.wear.now a.shown.now)) r.result r.new.page r.new.wear r.new.out) (unhexed_front 300 refl c.frame_bytes-n.ensures) r.ensures.given in
    record {
      played = ap (λ (q : Reply). record { answer = q.answer; from = q.from; count = q.count; fold = q.fold }) g.reply;
      state = ap (λ (q : Reply). q.state) g.reply;
      page = g.page-is;
      cells = r.ensures.read;
      wear = g.wear-is;
      shown = g.out;
    }
