-- The storeys that a topping keeps of its own.
use Rattle.std.specs.Prelude.{List, take}
use Rattle.records.specs.declared.level.Level.{Level}
use Rattle.frames.specs.declared.storeys.Storeys.{Storeys}

abbrev pub own_storeys : Storeys → List Level
own_storeys s = take s.count s.records
