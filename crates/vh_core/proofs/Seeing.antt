-- What is seen of a node, and what a message to one does.
use Rattle.std.proofs.Common.{◌≡◌, ◌∙◌, ℕ, ◌<◌, Bool, cond, List, get_or, set, length, refl, sym, ap}
use Rattle.std.proofs.lemmas.Bool.{eq-eqb, ne_eqb}
use Rattle.vh_params.specs.declared.command.Reply.{Reply}
use Rattle.vh_params.specs.Short.{words_in}
use Rattle.vh_plugin.specs.Class.{Class, State}
use Rattle.vh_session.specs.Content.{Content}
use Rattle.vh_meaning.specs.Scene.{Scene, class_at, params_at}
use Rattle.vh_meaning.specs.World.{told_at}
use Rattle.vh_meaning.specs.Rendering.{seen_of, answer_of}
use Rattle.vh_core.specs.State.{scene_in, Return}
use Rattle.vh_core.specs.State as machine
use Rattle.vh_core.specs.Kept.{return_of}
use Rattle.vh_core.specs.declared.returns.Return.TheVariants as stored
use Rattle.vh_core.specs.Playing.{HaveStates, setting_by}
use Rattle.vh_core.proofs.Players.{class_is, states_set}

-- a processor of a session, with its node's values
module _ {P : Type 0} (class_of : ℕ → Class) (code : P → ℕ) (state : P → State) (session : Content) (firsts : List ℕ) (processors : List P)
    (node : ℕ) (processor : P) (there : node < length processors) (is : processor ≡ get_or processors node processor) (given : List ℕ) (values : ℕ → List ℕ) (valued : given ≡ values node)
    (states : ℕ → State) (have : HaveStates state processors states) where
  abbrev scene_here : Scene
  scene_here = scene_in (setting_by class_of code session firsts processors)

  class_here : class_of (code processor) ≡ class_at scene_here node
  class_here = ap (λ (p : P). class_of (code p)) is ∙ sym (class_is class_of code session firsts processors node processor there)

  state_here : state processor ≡ states node
  state_here = ap state is ∙ have node processor there

  pub seen_here : seen_of (class_of (code processor)) (state processor) (class_of (code processor)).params given ≡ seen_of (class_at scene_here node) (states node) (params_at scene_here node) (values node)
  seen_here =
      ap (λ (c : Class). seen_of c (state processor) c.params given) class_here
      ∙ ap (λ (s : State). seen_of (class_at scene_here node) s (params_at scene_here node) given) state_here
      ∙ ap (λ (l : List ℕ). seen_of (class_at scene_here node) (states node) (params_at scene_here node) l) valued

  -- it took a message
  pub told_here : (words : List ℕ) (after : P) → state after ≡ (class_of (code processor)).told (state processor) given words → HaveStates state (set processors node after) (told_at scene_here values node words states)
  told_here words after told =
      let by_class : (class_of (code processor)).told (state processor) given words ≡ (class_at scene_here node).told (states node) (values node) words =
      ap (λ (c : Class). c.told (state processor) given words) class_here
      ∙ ap (λ (s : State). (class_at scene_here node).told s given words) state_here
      ∙ ap (λ (l : List ℕ). (class_at scene_here node).told (states node) l words) valued in
      let to : (other : ℕ) → Bool → State = λ other t. cond t ((class_at scene_here other).told (states other) (values other) words) (states other) in
      states_set state processors node after states (told_at scene_here values node words states) have
      (told ∙ by_class ∙ sym (ap (to node) (eq-eqb node node refl)))
      (λ other apart. ap (to other) (ne_eqb other node apart))

  -- and this is its reply
  pub reply_here : (sample : ℕ) (words : List ℕ) (reply : Reply) → reply.node ≡ node → reply.sample ≡ sample → words_in reply.words ≡ (class_of (code processor)).reply (state processor) given words
      → return_of (stored.Reply reply) ≡ machine.Reply (answer_of scene_here states values sample node words)
  reply_here sample words reply at when is_reply =
      let made : ℕ → ℕ → List ℕ → Return = λ n s ws. machine.Reply (record { node = n; sample = s; words = ws }) in
      ap (λ n. made n reply.sample (words_in reply.words)) at
      ∙ ap (λ s. made node s (words_in reply.words)) when
      ∙ ap (made node sample) (is_reply
      ∙ ap (λ (c : Class). c.reply (state processor) given words) class_here
      ∙ ap (λ (s : State). (class_at scene_here node).reply s given words) state_here
      ∙ ap (λ (l : List ℕ). (class_at scene_here node).reply (states node) l words) valued)
