use Rattle.std.proofs.Common.{◌∙◌, ℕ, ◌≤◌, List, sum, refl, sym, ap, subst, arith}
use Rattle.std.specs.Prelude.{All}
use Rattle.vh_editors.specs.Scripts.{quotas_of}
use Rattle.vh_live.proofs.Banded.{are_parts}
use Rattle.vh_live.proofs.run.Run.new.Goals as goal

pub new-requires-2-clause-parts : goal.new-requires-2-clause-parts
new-requires-2-clause-parts g c =
    let sizes = c.deref.ensures.value ∙ c.in-Ok.ensures.sizes in
    let within = subst (λ (xs : List ℕ). All (λ (size : ℕ). size ≤ c.requires.max) xs) (sym sizes) c.requires.sizes in
    are_parts _ _ _ _ c.args.session c.args.band c.requires c.longest-max.result (c.longest-max.ensures.most c.requires.max c.requires.some within)

pub new-requires-2-clause-most : goal.new-requires-2-clause-most
new-requires-2-clause-most g c =
    let sizes = c.deref.ensures.value ∙ c.in-Ok.ensures.sizes in
    let within = subst (λ (xs : List ℕ). All (λ (size : ℕ). size ≤ c.requires.max) xs) (sym sizes) c.requires.sizes in
    let less = c.longest-max.ensures.most c.requires.max c.requires.some within in
    let most = c.requires.most in
    omega (arith, less, most)

pub returns-in-Ok-new-clause-set_up : goal.returns-in-Ok-new-clause-set_up
returns-in-Ok-new-clause-set_up g c =
    let stage = c.in-Ok-new.ensures in
    let supplies = c.in-Ok.ensures in
    let hands = c.new-in-Ok-new.ensures in
    record {
      max = c.longest-max.result;
      edits = c.edits-edits.result;
      fresh = stage.fresh;
      ready = stage.ready;
      stands = stage.stands;
      empty = stage.journal;
      told = stage.told;
      parameters = stage.parameters;
      room =
          let capacity = stage.room in
          let edits = c.edits-edits.ensures in
          let quotas = ap (λ e. sum (quotas_of e.scripts)) supplies.editors in
          omega (arith, capacity, edits, quotas);
      sizes = supplies.sizes;
      pattern = supplies.pattern;
      within = subst (λ (xs : List ℕ). All (λ (size : ℕ). size ≤ c.longest-max.result) xs) c.deref.ensures.value c.longest-max.ensures.each;
      editors = supplies.editors;
      drain = supplies.drain;
      none_refused = supplies.refused;
      places = supplies.places;
      components = refl;
      controllers = hands.controllers;
      openers = hands.edits;
      holders = hands.holders;
      follower = hands.follower ∙ stage.follower;
      following = hands.following;
    }
