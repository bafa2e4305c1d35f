-- ── lists ──
-- lists that are filled up
mod Filling
-- pieces of one length that are joined end to end
mod Pieces
-- ── an image laid out ──
-- the blocks of a file, one after the other
mod Laying
-- what the loops over files, entries and tracks have appended
mod Listing
-- the indices of the blocks for files
mod Sectors
-- the image, put together
mod Joining
-- ── an image read back ──
-- reading the blocks of an image that was put together
mod Reading
-- following the chain of a file
mod Chains
-- walking the files of the directory
mod Walking
-- walking the blocks of the directory
mod Catalog
-- the map of free blocks is right
mod Mapping
-- the image is that of a disk with the files
mod DiskOfFiles
