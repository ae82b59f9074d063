use Rattle.std.proofs.Common.{List, ap}
use Rattle.vh_ids.specs.declared.interface.Interface.{Interface}
use Rattle.vh_ids.specs.declared.interface.Interface.TheVariants.{PluginBase, Component, AudioProcessor, ConnectionPoint}
use Rattle.vh_ids.specs.Interfaces.{iid_of}
use Rattle.vh_query.specs.Found.{found_from}
use Rattle.vh_instance.proofs.component.find_interfaces.Goals as goal

pub add_reference-requires-clause-listed : goal.add_reference-requires-clause-listed
add_reference-requires-clause-listed g c = (1, ap (λ (table : List Interface). found_from 0 table (iid_of PluginBase)) c.of_component-table.ensures.interfaces)

pub add_reference-requires-2-clause-listed : goal.add_reference-requires-2-clause-listed
add_reference-requires-2-clause-listed g c = (2, ap (λ (table : List Interface). found_from 0 table (iid_of Component)) c.of_component-table.ensures.interfaces)

pub add_reference-requires-3-clause-listed : goal.add_reference-requires-3-clause-listed
add_reference-requires-3-clause-listed g c = (3, ap (λ (table : List Interface). found_from 0 table (iid_of AudioProcessor)) c.of_component-table.ensures.interfaces)

pub add_reference-requires-4-clause-listed : goal.add_reference-requires-4-clause-listed
add_reference-requires-4-clause-listed g c = (4, ap (λ (table : List Interface). found_from 0 table (iid_of ConnectionPoint)) c.of_component-table.ensures.interfaces)
