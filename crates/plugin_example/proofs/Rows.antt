-- Blocks in a row go on in one stream.
use Rattle.std.proofs.Common.{◌≡◌, ℕ, ◌+◌, List, [], ℤ, ap, subst, ◌∙◌}
use Rattle.vh_points.specs.Queues.{Queue}
use Rattle.vh_plugin.specs.Class.{Class, State}
use Rattle.vh_plugin.specs.Blocks.{block_of, values_behind, state_in, output_in, IsOutput}
use Rattle.vh_plugin.specs.Laws.{BlockGoesOn}
use Rattle.plugin_example.specs.Rows.{AreRow}

pub row_goes_on : (class : Class) (channels : ℕ) (state : State) (values : List ℕ) (n : ℕ) (queues : List Queue) (main out : List ℤ) (m : ℕ) (later_queues : List Queue) (later_main later_out : List ℤ) (between later_state : State)
    → BlockGoesOn
    → IsOutput class state (block_of channels n queues values main []) out → between ≡ state_in class state (block_of channels n queues values main []) n
    → IsOutput class between (block_of channels m later_queues (values_behind class.params queues values) later_main []) later_out
    → later_state ≡ state_in class between (block_of channels m later_queues (values_behind class.params queues values) later_main []) m
    → AreRow class channels state values n queues main out m later_queues later_main later_out later_state
row_goes_on class channels state values n queues main out m later_queues later_main later_out between later_state law first first_state second second_state start stream from is one two =
    let block = block_of channels n queues values main [] in
    let later = block_of channels m later_queues (values_behind class.params queues values) later_main [] in
    let here = law class start stream from block one in
    let there = law class start stream (from + n) later two in
    let middle : between ≡ _ = first_state ∙ ap (λ (s : State). state_in class s block n) is ∙ here.1 in (
      (λ place lt. first.1 place lt ∙ ap (λ (s : State). output_in class s block place) is ∙ here.0 place lt),
      (λ place lt. second.1 place lt ∙ ap (λ (s : State). output_in class s later place) middle ∙ there.0 place lt),
      second_state ∙ ap (λ (s : State). state_in class s later m) middle ∙ there.1,
    )

-- where the second block finds the class, the channels and the values as they were left
pub row_goes_on_as_left : (class : Class) (channels : ℕ) (state : State) (values : List ℕ) (n : ℕ) (queues : List Queue) (main out : List ℤ) (m : ℕ) (later_queues : List Queue) (later_main later_out : List ℤ) (between later_state : State) (found_class : Class) (found_channels : ℕ) (found_values : List ℕ)
    → BlockGoesOn
    → found_class ≡ class → found_channels ≡ channels → found_values ≡ values_behind class.params queues values
    → IsOutput class state (block_of channels n queues values main []) out → between ≡ state_in class state (block_of channels n queues values main []) n
    → IsOutput found_class between (block_of found_channels m later_queues found_values later_main []) later_out
    → later_state ≡ state_in found_class between (block_of found_channels m later_queues found_values later_main []) m
    → AreRow class channels state values n queues main out m later_queues later_main later_out later_state
row_goes_on_as_left class channels state values n queues main out m later_queues later_main later_out between later_state found_class found_channels found_values law same_class same_channels same_values first first_state second second_state =
    let by_values = subst (λ (v : List ℕ). IsOutput found_class between (block_of found_channels m later_queues v later_main []) later_out) same_values second in
    let by_channels = subst (λ (k : ℕ). IsOutput found_class between (block_of k m later_queues (values_behind class.params queues values) later_main []) later_out) same_channels by_values in
    let by_class = subst (λ (k : Class). IsOutput k between (block_of channels m later_queues (values_behind class.params queues values) later_main []) later_out) same_class by_channels in
    let state_by_values = second_state ∙ ap (λ (v : List ℕ). state_in found_class between (block_of found_channels m later_queues v later_main []) m) same_values in
    let state_by_channels = state_by_values ∙ ap (λ (k : ℕ). state_in found_class between (block_of k m later_queues (values_behind class.params queues values) later_main []) m) same_channels in
    let state_by_class = state_by_channels ∙ ap (λ (k : Class). state_in k between (block_of channels m later_queues (values_behind class.params queues values) later_main []) m) same_class in
    row_goes_on class channels state values n queues main out m later_queues later_main later_out between later_state law first first_state by_class state_by_class
