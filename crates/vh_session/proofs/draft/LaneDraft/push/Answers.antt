use Rattle.std.proofs.Common.{subst, sym, [], ◌∷◌, ◌++◌}
use Rattle.std.specs.Result.{is_ok}
use Rattle.vh_lane.specs.Values.{AreBreaks}
use Rattle.vh_session.proofs.Breaks.{breaks_more, breaks_tried}
use Rattle.vh_session.proofs.draft.LaneDraft.push.Goals as goal

pub invariant_of-self : goal.invariant_of-self
invariant_of-self c =
    let old = c.args.self.now.breaks.items in
    let more = breaks_more old c.args.sample c.args.value c.args.self.now.rising c.requires.few c.requires.behind c.requires.within in
    record {
      coarse = c.args.self.now.coarse;
      rising = subst AreBreaks (sym c.push.ensures.items) (breaks_tried (is_ok c.push.result) old (old ++ (c.args.sample, c.args.value) ∷ []) c.args.self.now.rising more);
    }
