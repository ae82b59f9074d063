-- What callers see of a layout.
use Rattle.std.specs.Prelude.{List, take}
use Rattle.vh_component.specs.declared.layout.BusInfo.{BusInfo}
use Rattle.vh_component.specs.declared.layout.Layout.{Layout}

abbrev pub buses_of : Layout → List BusInfo
buses_of layout = take layout.len layout.buses
