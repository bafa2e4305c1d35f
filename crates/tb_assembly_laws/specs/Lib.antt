-- items that are the same, and where they are others
pub mod Items
-- the laws
pub mod Laws
-- expressions as trees, and how they are written
pub mod Trees
-- what trees say of reading and of values
pub mod TreeLaws
