use Rattle.std.proofs.Common.{rules, ◌≡◌, ℤ, List, length, sym, subst}
use Rattle.std.proofs.lemmas.List.{take_at}
use Rattle.vh_builtin.specs.Rings.{history, IsEcho}
use Rattle.vh_builtin.proofs.delay.Ring.run.Goals as goal

pub returns : goal.returns
returns c =
    let long : length c.run_channel-self.new.ring ≡ c.args.self.now.places.len = search rules in
    subst (λ (ring : List ℤ). IsEcho c.args.time c.args.mix c.args.feedback (history c.args.self.now.places.items c.args.self.now.at) c.args.main.now (length c.args.main.now) (history ring c.run_channel-self.result) c.run_channel-self.new.out)
    (sym (take_at c.run_channel-self.new.ring _ c.args.self.now.places.len long))
    (subst (λ (ring : List ℤ). IsEcho c.args.time c.args.mix c.args.feedback (history ring c.args.self.now.at) c.args.main.now (length c.args.main.now) (history c.run_channel-self.new.ring c.run_channel-self.result) c.run_channel-self.new.out)
    c.deref_mut.ensures.value c.run_channel-self.ensures.echo)
