-- What callers see of a preset.
use Rattle.vh_preset.specs.declared.preset.Preset.{Preset}
use Rattle.vh_preset.specs.Contents.{Contents}

abbrev pub contents_of : Preset → Contents
contents_of preset =
    record { class = preset.class; version = preset.version; entries = preset.entries.items; bytes = preset.bytes.items }
