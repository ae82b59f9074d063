-- A sound that is drawn, as a scene hears it.
use Rattle.std.proofs.Common.{◌≡◌, ◌∙◌, ◌+◌, ◌<◌, get_or, sym, ap, arith}
use Rattle.std.proofs.lemmas.List.FromFn.{get_or-map-range_with_len}
use Rattle.vh_num.specs.Frames.{frame_at}
use Rattle.vh_meaning.specs.World.{silence}
use Rattle.vh_gen.specs.Generated.{frame_from, frame_total, input_from}
use Rattle.vh_gen.specs.Sound.{SoundIsInput}

pub law_sound_is_input : SoundIsInput
law_sound_is_input state scene sound drawn stereo long place lt =
    let within : place < frame_total = omega (arith, lt, long) in
    let here : place ≡ 0 + place = omega arith in
    let heard : get_or (input_from state) (0 + place) (silence scene.channels) ≡ frame_from state place =
    ap (λ n. get_or (input_from state) n (silence scene.channels)) (sym here) ∙ get_or-map-range_with_len (frame_from state) 0 frame_total place place (silence scene.channels) within (omega arith) in
    ap (λ n. frame_at scene.channels n sound.samples.items place) long
    ∙ ap (λ c. frame_at c frame_total sound.samples.items place) stereo
    ∙ drawn.frames_are place within ∙ sym heard
