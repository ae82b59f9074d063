-- What is said of an answer.
use Rattle.std.specs.Prelude.{◌≡◌, ℕ, List, [], ◌∷◌, Option, Some, None, ⊤, ◌⊎◌, codes}
use Rattle.std.specs.Fmt.{decimal}
use Rattle.vh_files.specs.Causes.{Rose}
use Rattle.vh_files.specs.Store.{SaysMore, SaysInPart}
use Rattle.vh_journal_text.specs.Kinds as journal
use Rattle.vh_preset.specs.Numbers.{refusal_number}
use Rattle.vh_session.specs.Kinds as session
use Rattle.vh_text.specs.Written.{line_text}
use Rattle.vh_wav.specs.declared.head.WavFault.{WavFault}
use Rattle.vh_wav.specs.declared.head.WavFault.TheVariants.{NotRiff, NoFmt, BadFmt, Unsupported, NoData, Truncated, OtherChannels}
use Rattle.vh_answers.specs.declared.status.Place.{Place}
use Rattle.vh_answers.specs.declared.status.Place.TheVariants.{Session, Preset, Input, Journal, Output, Report}
use Rattle.vh_answers.specs.declared.status.Status.{Status}
use Rattle.vh_answers.specs.declared.status.Status.TheVariants.{Ok, Usage, SessionRefused, WavRefused, PresetRefused, JournalRefused, ReadFault, WriteFault, Memory}
use Rattle.vh_answers.specs.Outside.{Said}

-- the numbers of the answers
abbrev pub status_number : Status → ℕ
status_number Ok = 0
status_number Usage = 1
status_number (SessionRefused fault) = 2
status_number (WavRefused fault) = 3
status_number (PresetRefused _ _) = 4
status_number (JournalRefused fault) = 5
status_number (ReadFault place) = 6
status_number (WriteFault place) = 7
status_number Memory = 8

-- and of the faults of a WAV file
abbrev pub wav_number : WavFault → ℕ
wav_number NotRiff = 1
wav_number NoFmt = 2
wav_number BadFmt = 3
wav_number (Unsupported tag bits) = 4
wav_number NoData = 5
wav_number Truncated = 6
wav_number (OtherChannels count) = 7

abbrev pub place_name : Place → List ℕ
place_name Session = codes "session"
place_name Preset = codes "preset"
place_name Input = codes "input"
place_name Journal = codes "journal"
place_name Output = codes "output"
place_name Report = codes "report"

-- the number of a node as a word, or a dash for none
abbrev pub node_word : Option ℕ → List ℕ
node_word None = codes "-"
node_word (Some node) = decimal node

-- an answer of which a line is said
abbrev pub IsRefusal : Status → Type 0
IsRefusal Ok = ⊥
IsRefusal Usage = ⊤
IsRefusal (SessionRefused fault) = ⊤
IsRefusal (WavRefused fault) = ⊤
IsRefusal (PresetRefused _ _) = ⊤
IsRefusal (JournalRefused fault) = ⊤
IsRefusal (ReadFault place) = ⊤
IsRefusal (WriteFault Session) = ⊤
IsRefusal (WriteFault Preset) = ⊤
IsRefusal (WriteFault Input) = ⊤
IsRefusal (WriteFault Journal) = ⊤
IsRefusal (WriteFault Output) = ⊤
IsRefusal (WriteFault Report) = ⊥
IsRefusal Memory = ⊥

-- the words of the line
abbrev pub refused_words : Status → List (List ℕ)
refused_words Ok = []
refused_words Usage = codes "refused" ∷ codes "usage" ∷ []
refused_words (SessionRefused fault) = codes "refused" ∷ codes "session" ∷ decimal fault.line ∷ decimal (session.kind_number fault.kind) ∷ []
refused_words (WavRefused fault) = codes "refused" ∷ codes "wav" ∷ decimal (wav_number fault) ∷ []
refused_words (PresetRefused node kind) = codes "refused" ∷ codes "preset" ∷ node_word node ∷ decimal (refusal_number kind) ∷ []
refused_words (JournalRefused fault) = codes "refused" ∷ codes "journal" ∷ decimal fault.line ∷ decimal (journal.kind_number fault.kind) ∷ []
refused_words (ReadFault place) = codes "failed" ∷ codes "read" ∷ place_name place ∷ []
refused_words (WriteFault place) = codes "failed" ∷ codes "write" ∷ place_name place ∷ []
refused_words Memory = []

abbrev pub refused_text : Status → List ℕ
refused_text answer = line_text (refused_words answer)

-- the line of an answer was said, or a front part of it where a write failed
abbrev pub SaysLine : Said → Said → Status → Type 0
SaysLine said said_now answer = SaysMore said.text said_now.text (refused_text answer) ⊎ (Rose said.faults said_now.faults × SaysInPart said.text said_now.text (refused_text answer))

-- so of an answer that refuses, and of another nothing is said
abbrev pub SaysOf : Status → Said → Said → Type 0
SaysOf answer said said_now = (IsRefusal answer × SaysLine said said_now answer) ⊎ ((IsRefusal answer → ⊥) × (said_now ≡ said))
