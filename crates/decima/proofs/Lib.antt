mod Greatest
pub mod RateLaws
