-- The items of an array are the list that they were made of.
use Rattle.std.proofs.Common.{◌≡◌, List, [], ◌∷◌, refl, ap}
use Rattle.toml.specs.Data.{Data}
use Rattle.toml.specs.View.{items_of}
use Rattle.rv_describe.specs.ArrivalList.{item_list}

-- the list of the items that are made of a list is that list
pub item_list-items_of : (items : List Data) → item_list (items_of items) ≡ items
item_list-items_of [] = refl
item_list-items_of (item ∷ later) = ap (λ others. item ∷ others) (item_list-items_of later)
