pub mod CoveringLaws
