-- The table of interfaces.
use Rattle.std.specs.Prelude.{ℕ, List, [], ◌∷◌, ◌++◌, replicate, codes}
use Rattle.vh_ids.specs.declared.interface.Interface.{Interface}
use Rattle.vh_ids.specs.declared.interface.Interface.TheVariants.{Unknown, PluginBase, Component, AudioProcessor, EditController, ConnectionPoint, ComponentHandler, Message}

-- the identifier of this project's interface of this number
abbrev pub own_iid : ℕ → List ℕ
own_iid n = codes "VHSTIID" ++ replicate 8 0 ++ n ∷ []

abbrev pub iid_of : Interface → List ℕ
iid_of Unknown = replicate 8 0 ++ 0xC0 ∷ replicate 6 0 ++ 0x46 ∷ []
iid_of PluginBase = own_iid 1
iid_of Component = own_iid 2
iid_of AudioProcessor = own_iid 3
iid_of EditController = own_iid 4
iid_of ConnectionPoint = own_iid 5
iid_of ComponentHandler = own_iid 6
iid_of Message = own_iid 7
