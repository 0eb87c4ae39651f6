-- The drivers, blocks and `initial` items of a flat design, by the parts of its walk.
use Rattle.rr_flat.specs.declared.design.Part as design
use Rattle.rr_flat.specs.declared.design.Part.TheVariants as part
use Rattle.rr_flat.specs.Plain.{Driver, Block, Initial, Flat}
use Rattle.rr_flat.specs.Writers.{driver_at, no_driver, block_at, no_block, initial_at, no_initial}

-- the driver, the block or the `initial` item of a part; where it is another one there is none, which has no text
abbrev pub driver_of : Flat → design.Part → Driver
driver_of flat (part.Driver k) = driver_at flat k
driver_of flat (part.Clocked k) = no_driver
driver_of flat (part.Combinational k) = no_driver
driver_of flat (part.Initial k) = no_driver

abbrev pub block_of : Flat → design.Part → Block
block_of flat (part.Driver k) = no_block
block_of flat (part.Clocked k) = block_at flat.clocked k
block_of flat (part.Combinational k) = block_at flat.combinational k
block_of flat (part.Initial k) = no_block

abbrev pub initial_of : Flat → design.Part → Initial
initial_of flat (part.Driver k) = no_initial
initial_of flat (part.Clocked k) = no_initial
initial_of flat (part.Combinational k) = no_initial
initial_of flat (part.Initial k) = initial_at flat.initials k
